use Rattle.c_answers.proofs.OneRefusal.{some_refusal}
use Rattle.c_answers.proofs.laws.each_text_has_its_refusal.Goals as goal

pub returns : goal.returns
returns c = some_refusal c.texts_have_an_answer.ensures
