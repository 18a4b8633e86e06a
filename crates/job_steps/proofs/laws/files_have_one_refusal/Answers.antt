use Rattle.job_steps.proofs.OneReading.{one_refusal}
use Rattle.job_steps.proofs.laws.files_have_one_refusal.Goals as goal

pub returns : goal.returns
returns c = one_refusal c.texts_have_one_answer.ensures c.answers_are_one.ensures
