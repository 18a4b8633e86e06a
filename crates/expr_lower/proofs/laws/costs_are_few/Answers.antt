use Rattle.std.proofs.Common.{arith}
use Rattle.expr_lower.proofs.laws.costs_are_few.Goals as goal

pub returns : goal.returns
returns c = λ e. omega (arith, c.costs_go_with_nodes.ensures.any e)
