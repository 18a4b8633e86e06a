use Rattle.expr_lower.proofs.Contract.{plain_assignment, plain_statements, plain_operand, plain_stands}
use Rattle.expr_lower.proofs.OperationParts.{plain_temps}
use Rattle.expr_lower.proofs.laws.plain_expressions_are_words.Goals as goal

pub returns-clause-values : goal.returns-clause-values
returns-clause-values c = plain_assignment

pub returns-clause-operands : goal.returns-clause-operands
returns-clause-operands c = plain_statements

pub returns-clause-words : goal.returns-clause-words
returns-clause-words c = plain_operand

pub returns-clause-temporaries : goal.returns-clause-temporaries
returns-clause-temporaries c = plain_temps

pub returns-clause-gives : goal.returns-clause-gives
returns-clause-gives c = plain_stands c.laws_below.ensures
