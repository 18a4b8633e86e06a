-- The plain copies of what new local words come to.
use Rattle.turn_blocks.specs.WordUses as uses
use Rattle.word_uses.specs.declared.new_words.LetUse as code
use Rattle.word_uses.specs.declared.new_words.LetUse.TheVariants as use_of

abbrev pub let_use_of : code.LetUse → uses.LetUse
let_use_of use_of.Tested = uses.Tested
let_use_of use_of.Unused = uses.Unused
let_use_of (use_of.Same k) = uses.Same k
let_use_of use_of.Own = uses.Own
