use Rattle.std.proofs.Common.{rules}
use Rattle.list_denotation.specs.Pipelines.{pipeline_of}
use Rattle.headline.specs.Headline.{IsEmitted}
use Rattle.loop_ir.specs.Routines.{routine_of}
use Rattle.loop_ir.specs.WellFormed.{IsWellFormed}
use Rattle.job_work.proofs.DoneWork.{runs}
use Rattle.job_work.proofs.working.run.Goals as goal

pub returns-in-Ok-clause-does : goal.returns-in-Ok-clause-does
returns-in-Ok-clause-does g c =
    let well_formed : IsWellFormed (routine_of c.deref.result.now) = search rules in
    let emitted : IsEmitted (pipeline_of c.args.program.now) (routine_of c.deref.result.now) = search rules in
    runs (pipeline_of c.args.program.now) (routine_of c.deref.result.now) c.args.inputs.now c.args.turns _ _ _ _ c.execute.result well_formed emitted c.execute.ensures.does
