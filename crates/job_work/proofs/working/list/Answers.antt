use Rattle.list_denotation.specs.Pipelines.{pipeline_of}
use Rattle.list_model.specs.Seen.{seen_of}
use Rattle.job_work.proofs.DoneWork.{lists}
use Rattle.job_work.proofs.working.list.Goals as goal

pub returns-in-Ok-clause-does : goal.returns-in-Ok-clause-does
returns-in-Ok-clause-does g c =
    lists (pipeline_of c.args.program.now) (seen_of c.in-Ok.seen) c.args.inputs.now c.args.pulls _ _ _ _ c.write_seen.result c.in-Ok.ensures.answers.0 c.in-Ok.ensures.answers.1 c.write_seen.ensures.does
