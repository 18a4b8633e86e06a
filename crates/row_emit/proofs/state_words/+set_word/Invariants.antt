use Rattle.list_denotation.specs.Copies.{term_of}
use Rattle.list_denotation.specs.Counts.{term_depth}
use Rattle.row_emit.proofs.state_words.+set_word.Given as goal

abbrev pub decreases-set_word : goal.decreases-set_word
decreases-set_word l = term_depth (term_of l.e.now)
