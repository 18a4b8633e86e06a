use Rattle.list_denotation.proofs.CostsOfNodes.{cost_within, undivided_within}
use Rattle.list_denotation.proofs.laws.costs_go_with_nodes.Goals as goal

pub returns : goal.returns
returns c = record { any = cost_within; undivided = undivided_within }
