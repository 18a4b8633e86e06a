use Rattle.expr_phrases.proofs.Comparisons.{comparison_test_is}
use Rattle.expr_phrases.proofs.LeafTests.{comparison_leaves}
use Rattle.expr_phrases.proofs.laws.comparisons_tell_the_signed_order.Goals as goal

pub returns-clause-truth : goal.returns-clause-truth
returns-clause-truth c = comparison_test_is c.laws_below.ensures

pub returns-clause-leaves : goal.returns-clause-leaves
returns-clause-leaves c = λ passes o a b constants h k. comparison_leaves passes constants o a b h k
