-- The laws of constants and phrases that the leaves of forms rest on.
use Rattle.expr_constants.specs.Promises.{ConstantsAreWords}
use Rattle.expr_phrases.specs.Promises.{ComparisonsHaveLeavesOfTheirWords}
use Rattle.expr_phrases.specs.Promises.{DivisionsHaveLeavesOfTheirOperands}
use Rattle.expr_phrases.specs.Promises.{MagnitudesHaveLeavesOfTheirOperand}
use Rattle.expr_phrases.specs.Promises.{MultiplesHaveLeavesOfTheirOperand}
use Rattle.expr_phrases.specs.Promises.{OppositesHaveLeavesOfTheirTest}

pub record Laws : Type 0 where
  pub constant_word : ConstantsAreWords
  pub opposite_leaves : OppositesHaveLeavesOfTheirTest
  pub comparison_leaves : ComparisonsHaveLeavesOfTheirWords
  pub division_leaves : DivisionsHaveLeavesOfTheirOperands
  pub magnitude_leaves : MagnitudesHaveLeavesOfTheirOperand
  pub multiple_leaves : MultiplesHaveLeavesOfTheirOperand
