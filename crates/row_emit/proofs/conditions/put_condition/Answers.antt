use Rattle.list_denotation.specs.Copies.{term_of}
use Rattle.expr_lower.specs.Contract.{scope_of}
use Rattle.row_emit.proofs.conditions.put_condition.Goals as goal

pub lower_test-requires-clause-target : goal.lower_test-requires-clause-target
lower_test-requires-clause-target c =
    let slots = c.args.slots.now in
    c.scopes_hold_expressions.ensures.target (scope_of slots) slots.next (term_of c.args.e.now) c.args.scratch slots.laid_out c.requires.bound c.requires.scratch
