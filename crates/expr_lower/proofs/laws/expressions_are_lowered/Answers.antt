use Rattle.expr_lower.proofs.Contract.{puts_value, tells_truth, yields_word}
use Rattle.expr_lower.proofs.laws.expressions_are_lowered.Goals as goal

pub returns-clause-values : goal.returns-clause-values
returns-clause-values c = puts_value c.laws_below.ensures

pub returns-clause-conditions : goal.returns-clause-conditions
returns-clause-conditions c = tells_truth c.laws_below.ensures

pub returns-clause-operands : goal.returns-clause-operands
returns-clause-operands c = yields_word c.laws_below.ensures
