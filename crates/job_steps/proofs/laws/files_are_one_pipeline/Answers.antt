use Rattle.job_steps.proofs.OneReading.{one_pipeline}
use Rattle.job_steps.proofs.laws.files_are_one_pipeline.Goals as goal

pub returns : goal.returns
returns c = one_pipeline c.texts_have_one_answer.ensures c.answers_are_one.ensures
