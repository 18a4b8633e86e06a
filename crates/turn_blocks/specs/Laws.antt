-- The laws of expressions that the statements of a turn rest on.
use Rattle.list_denotation.specs.Values.{value}
use Rattle.denotation_laws.specs.Promises.{UndividedExpressionsHaveValues}
use Rattle.expr_constants.specs.Promises.{ConstantsAreValues}
use Rattle.expr_lower.specs.Promises.{BareTestsNameTheirLeaves, ConditionsAreLowered}
use Rattle.expr_lower.specs.Promises.{ConditionsHaveWordConstants, ConditionsNameTheirLeaves}
use Rattle.expr_lower.specs.Promises.{FreshVariablesAreTargets, OperandWordsNameTheirLeaves}
use Rattle.expr_lower.specs.Promises.{OperandsAreLowered, OperandsHaveWordConstants}
use Rattle.expr_lower.specs.Promises.{OperandsNameTheirLeaves, PlainValuesAreOneAssignment}
use Rattle.expr_lower.specs.Promises.{PlainWordsHaveTheirValues, TestsNameTheirLeaves}
use Rattle.expr_lower.specs.Promises.{ValuesAreLowered, ValuesHaveWordConstants, ValuesNameTheirLeaves}

pub record Laws : Type 0 where
  -- what the statements of an expression do
  pub values : ValuesAreLowered
  pub conditions : ConditionsAreLowered
  pub operands : OperandsAreLowered
  pub fresh_target : FreshVariablesAreTargets
  -- plain expressions
  pub plain_block : PlainValuesAreOneAssignment
  pub plain_value : PlainWordsHaveTheirValues
  -- expressions without division
  pub undivided_value : UndividedExpressionsHaveValues
  -- expressions whose value is known
  pub constant_value : ConstantsAreValues
  -- what the statements name, and their constants
  pub names_of_value : ValuesNameTheirLeaves
  pub names_of_condition : ConditionsNameTheirLeaves
  pub names_of_test : TestsNameTheirLeaves
  pub names_of_bare_test : BareTestsNameTheirLeaves
  pub names_of_operand : OperandsNameTheirLeaves
  pub names_of_word : OperandWordsNameTheirLeaves
  pub constants_of_value : ValuesHaveWordConstants
  pub constants_of_condition : ConditionsHaveWordConstants
  pub constants_of_operand : OperandsHaveWordConstants
