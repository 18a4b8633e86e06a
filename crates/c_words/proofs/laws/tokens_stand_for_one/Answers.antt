use Rattle.c_words.proofs.OneToken.{one_token}
use Rattle.c_words.proofs.laws.tokens_stand_for_one.Goals as goal

pub returns : goal.returns
returns c = λ what t u f g. one_token what t u f g
