use Rattle.denotation_laws.proofs.FarOrder.{far_trans, far_same}
use Rattle.denotation_laws.proofs.laws.far_is_an_order.Goals as goal

pub returns : goal.returns
returns c = record { transitive = far_trans; antisymmetric = far_same }
