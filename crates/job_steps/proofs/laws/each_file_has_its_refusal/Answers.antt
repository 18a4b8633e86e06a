use Rattle.job_steps.proofs.EachRefusal.{some_refusal}
use Rattle.job_steps.proofs.laws.each_file_has_its_refusal.Goals as goal

pub returns : goal.returns
returns c = some_refusal c.texts_have_an_answer.ensures c.tokens_have_an_answer.ensures c.trees_have_an_answer.ensures
