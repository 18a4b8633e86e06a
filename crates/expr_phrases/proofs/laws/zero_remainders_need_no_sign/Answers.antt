use Rattle.expr_phrases.proofs.LeafTests.{magnitude_leaves, multiple_leaves}
use Rattle.expr_phrases.proofs.Remainders.{magnitude_assigns, of_magnitude, of_word}
use Rattle.expr_phrases.proofs.Sizes.{magnitude_few, magnitude_loops}
use Rattle.expr_phrases.proofs.laws.zero_remainders_need_no_sign.Goals as goal

pub returns-clause-words : goal.returns-clause-words
returns-clause-words c = c.laws_below.ensures.magnitude_word

pub returns-clause-magnitudes : goal.returns-clause-magnitudes
returns-clause-magnitudes c = magnitude_assigns

pub returns-clause-of_magnitude : goal.returns-clause-of_magnitude
returns-clause-of_magnitude c = of_magnitude c.laws_below.ensures

pub returns-clause-of_word : goal.returns-clause-of_word
returns-clause-of_word c = of_word c.laws_below.ensures

pub returns-clause-block_leaves : goal.returns-clause-block_leaves
returns-clause-block_leaves c = λ passes w v constants at h. magnitude_leaves passes constants w v at h

pub returns-clause-test_leaves : goal.returns-clause-test_leaves
returns-clause-test_leaves c = λ passes o w k constants word h. multiple_leaves passes constants c.laws_below.ensures o w k word h

pub returns-clause-few : goal.returns-clause-few
returns-clause-few c = magnitude_few

pub returns-clause-no_loops : goal.returns-clause-no_loops
returns-clause-no_loops c = magnitude_loops
