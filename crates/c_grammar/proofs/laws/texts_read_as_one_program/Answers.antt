use Rattle.c_grammar.proofs.OneReading.{one_reading}
use Rattle.c_grammar.proofs.laws.texts_read_as_one_program.Goals as goal

pub returns : goal.returns
returns c = λ src p q. one_reading c.texts_have_one_cutting.ensures src p q
