use Rattle.expr_lower.proofs.Costs.{temps_depth}
use Rattle.expr_lower.proofs.laws.temporaries_are_few.Goals as goal

pub returns : goal.returns
returns c = temps_depth
