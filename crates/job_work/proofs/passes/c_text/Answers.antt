use Rattle.std.proofs.Common.{rules}
use Rattle.list_denotation.specs.Pipelines.{pipeline_of}
use Rattle.headline.specs.Headline.{IsEmitted}
use Rattle.loop_ir.specs.Routines.{routine_of}
use Rattle.loop_ir.specs.WellFormed.{IsWellFormed}
use Rattle.job_work.proofs.CTexts.{text_of}
use Rattle.job_work.proofs.passes.c_text.Goals as goal

pub returns : goal.returns
returns c =
    let q = routine_of c.deref.result.now in
    let well_formed : IsWellFormed (routine_of c.deref.result.now) = search rules in
    let emitted : IsEmitted (pipeline_of c.args.program.now) (routine_of c.deref.result.now) = search rules in
    text_of (pipeline_of c.args.program.now) q c.print_c.result well_formed emitted c.print_c.ensures.layout c.print_c.ensures.reads c.print_c.ensures.only
