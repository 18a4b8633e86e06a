use Rattle.job_steps.proofs.OneWork.{one_end}
use Rattle.job_steps.proofs.laws.words_come_to_one.Goals as goal

pub returns : goal.returns
returns c = one_end c.texts_have_one_answer.ensures c.answers_are_one.ensures c.texts_have_one_answer-2.ensures c.files_have_one_answer.ensures
