use Rattle.c_words.proofs.SomeToken.{token_of, token_stands}
use Rattle.c_words.proofs.laws.tokens_are_seen.Goals as goal

pub returns : goal.returns
returns c = λ what. (token_of what, token_stands what)
