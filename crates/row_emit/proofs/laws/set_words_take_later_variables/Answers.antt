use Rattle.row_emit.proofs.SetWords.{words_grow}
use Rattle.row_emit.proofs.laws.set_words_take_later_variables.Goals as goal

pub returns : goal.returns
returns c = words_grow
