use Rattle.strm_num.proofs.Signed.{less_is}
use Rattle.strm_num.proofs.laws.signed_order_flips_sign_bits.Goals as goal

pub returns : goal.returns
returns c = less_is
