use Rattle.c_answers.proofs.OneRefusal.{one_refusal}
use Rattle.c_answers.proofs.laws.texts_have_one_refusal.Goals as goal

pub returns : goal.returns
returns c = one_refusal c.texts_have_one_answer.ensures
