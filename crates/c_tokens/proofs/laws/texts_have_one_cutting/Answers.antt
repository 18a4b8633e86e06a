use Rattle.c_tokens.proofs.OneCutting.{one_cutting}
use Rattle.c_tokens.proofs.laws.texts_have_one_cutting.Goals as goal

pub returns : goal.returns
returns c = one_cutting
