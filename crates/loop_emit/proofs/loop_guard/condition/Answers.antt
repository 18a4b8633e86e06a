use Rattle.std.proofs.Common.{arith}
use Rattle.list_denotation.specs.Copies.{term_of}
use Rattle.expr_lower.specs.Contract.{scope_of}
use Rattle.loop_emit.proofs.loop_guard.condition.Goals as goal

pub lower_test-requires-clause-target : goal.lower_test-requires-clause-target
lower_test-requires-clause-target c =
    let slots = c.args.slots.now in
    c.scopes_hold_expressions.ensures.target (scope_of slots) slots.next (term_of c.args.e.now) slots.next slots.laid_out c.requires.bound (omega arith)
