use Rattle.expr_phrases.proofs.Divisions.{divisor_assigns, result_word}
use Rattle.expr_phrases.proofs.LeafTests.{division_leaves}
use Rattle.expr_phrases.proofs.Sizes.{division_few, division_loops}
use Rattle.expr_phrases.proofs.laws.divisions_assign_signed_results.Goals as goal

pub returns-clause-assigns : goal.returns-clause-assigns
returns-clause-assigns c = divisor_assigns c.laws_below.ensures

pub returns-clause-words : goal.returns-clause-words
returns-clause-words c = result_word c.laws_below.ensures

pub returns-clause-leaves : goal.returns-clause-leaves
returns-clause-leaves c = λ passes d m n a b v constants m_word n_word at h k.
    division_leaves passes constants c.laws_below.ensures d m n a b v m_word n_word at h k

pub returns-clause-few : goal.returns-clause-few
returns-clause-few c = division_few

pub returns-clause-no_loops : goal.returns-clause-no_loops
returns-clause-no_loops c = division_loops
