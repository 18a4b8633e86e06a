use Rattle.std.proofs.Common.{◌+◌, ◌*◌, max}
use Rattle.pipe_tree.specs.Bounds.{depth_of}
use Rattle.pipe_tree.specs.TreeCopies.{formula_of}
use Rattle.pipe_printer.proofs.expressions.+expressions.Given as goal

-- each part is less deep than the expression that it is a part of
abbrev pub decreases-put_expression : goal.decreases-put_expression
decreases-put_expression l = 3 * depth_of (formula_of l.e.now)

abbrev pub decreases-put_signed : goal.decreases-put_signed
decreases-put_signed l = 3 * depth_of (formula_of l.a.now) + 1

abbrev pub decreases-put_joined : goal.decreases-put_joined
decreases-put_joined l = 3 * max (depth_of (formula_of l.a.now)) (depth_of (formula_of l.b.now)) + 2

abbrev pub decreases-put_choice : goal.decreases-put_choice
decreases-put_choice l =
    3 * max (depth_of (formula_of l.c.now)) (max (depth_of (formula_of l.a.now)) (depth_of (formula_of l.b.now))) + 2
