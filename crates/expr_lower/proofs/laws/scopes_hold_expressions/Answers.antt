use Rattle.expr_lower.proofs.Disjointness.{fresh_target}
use Rattle.expr_lower.proofs.Leaves.{scope_in_place, scope_names}
use Rattle.expr_lower.proofs.laws.scopes_hold_expressions.Goals as goal

pub returns-clause-target : goal.returns-clause-target
returns-clause-target c = fresh_target

pub returns-clause-in_place : goal.returns-clause-in_place
returns-clause-in_place c = scope_in_place

pub returns-clause-names : goal.returns-clause-names
returns-clause-names c = scope_names
