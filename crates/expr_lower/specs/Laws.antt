-- The laws of the phrases that the statements of expressions rest on.
use Rattle.expr_constants.specs.Promises.{ConstantsAreValues, ConstantsAreWords}
use Rattle.expr_forms.specs.Promises.{ChoiceHasLeavesOfItsParts, ConditionHasLeavesOfItsForm}
use Rattle.expr_forms.specs.Promises.{ConnectiveHasLeavesOfItsParts, MinusHasLeavesOfItsPart}
use Rattle.expr_forms.specs.Promises.{MultipleHasLeavesOfItsParts}
use Rattle.expr_forms.specs.Promises.{OperandStatementsHaveLeavesOfTheirForm}
use Rattle.expr_forms.specs.Promises.{OperandWordHasLeavesOfItsForm, OperationHasLeavesOfItsParts}
use Rattle.expr_forms.specs.Promises.{OppositeHasLeavesOfItsPart, ValueHasLeavesOfItsForm}
use Rattle.expr_phrases.specs.Promises.{ComparisonsHaveLeavesOfTheirWords}
use Rattle.expr_phrases.specs.Promises.{ComparisonsTellTheSignedOrder, DivisionsAssignSignedResults}
use Rattle.expr_phrases.specs.Promises.{DivisionsHaveFewStatements, DivisionsHaveNoLoops}
use Rattle.expr_phrases.specs.Promises.{MagnitudesAreAssigned, MagnitudesHaveFewStatements}
use Rattle.expr_phrases.specs.Promises.{MagnitudesHaveNoLoops, MinusNegates}
use Rattle.expr_phrases.specs.Promises.{MultiplesAreToldByMagnitudes, MultiplesAreToldByWords}
use Rattle.expr_phrases.specs.Promises.{MultiplesHaveLeavesOfTheirOperand}
use Rattle.expr_phrases.specs.Promises.{OppositesHaveLeavesOfTheirTest, OppositesNegate}
use Rattle.expr_phrases.specs.Promises.{ResultsOfDivisionsAreWords}
use Rattle.strm_num.specs.Promises.{MagnitudesAreWords}

pub record Laws : Type 0 where
  -- of constants
  pub constant_value : ConstantsAreValues
  pub constant_word : ConstantsAreWords
  -- of a minus, and of the opposite of a test
  pub minus_value : MinusNegates
  pub opposite_value : OppositesNegate
  -- of comparisons
  pub comparison_value : ComparisonsTellTheSignedOrder
  -- of divisions
  pub division_assigns : DivisionsAssignSignedResults
  pub division_word : ResultsOfDivisionsAreWords
  pub division_few : DivisionsHaveFewStatements
  pub division_loops : DivisionsHaveNoLoops
  -- of remainders that are compared with 0
  pub magnitude_word : MagnitudesAreWords
  pub magnitude_assigns : MagnitudesAreAssigned
  pub multiple_of_magnitude : MultiplesAreToldByMagnitudes
  pub multiple_of_word : MultiplesAreToldByWords
  pub magnitude_few : MagnitudesHaveFewStatements
  pub magnitude_loops : MagnitudesHaveNoLoops
  -- of the leaves of tests
  pub opposite_test_leaves : OppositesHaveLeavesOfTheirTest
  pub comparison_test_leaves : ComparisonsHaveLeavesOfTheirWords
  pub multiple_test_leaves : MultiplesHaveLeavesOfTheirOperand
  -- of the leaves of forms
  pub minus_leaves : MinusHasLeavesOfItsPart
  pub opposite_leaves : OppositeHasLeavesOfItsPart
  pub condition_leaves : ConditionHasLeavesOfItsForm
  pub value_leaves : ValueHasLeavesOfItsForm
  pub operand_leaves : OperandStatementsHaveLeavesOfTheirForm
  pub word_leaves : OperandWordHasLeavesOfItsForm
  pub operation_leaves : OperationHasLeavesOfItsParts
  pub multiple_leaves : MultipleHasLeavesOfItsParts
  pub connective_leaves : ConnectiveHasLeavesOfItsParts
  pub choice_leaves : ChoiceHasLeavesOfItsParts
