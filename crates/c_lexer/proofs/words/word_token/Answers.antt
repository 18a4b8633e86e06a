use Rattle.c_words.specs.declared.token.CToken.TheVariants.{Name}
use Rattle.c_words.proofs.SomeToken.{other_word}
use Rattle.c_lexer.proofs.words.word_token.Goals as goal

pub returns-in-None : goal.returns-in-None
returns-in-None c = other_word c.args.word.now c.in-None.ensures (λ l n small e. c.in_default.ensures (Name l n) (small, e))
