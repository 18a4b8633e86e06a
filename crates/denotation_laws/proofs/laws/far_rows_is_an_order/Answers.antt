use Rattle.denotation_laws.proofs.FarRowsOrder.{far_itself, far_rows_trans, far_rows_same, far_cut_short, cut_short_far}
use Rattle.denotation_laws.proofs.laws.far_rows_is_an_order.Goals as goal

pub returns : goal.returns
returns c = record {
  cut_short = λ o u. (λ h. far_cut_short h, cut_short_far o u);
  reflexive = far_itself;
  transitive = λ o u w h k. far_rows_trans h k;
  antisymmetric = λ o u h k. far_rows_same h k;
}
