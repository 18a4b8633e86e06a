use Rattle.std.proofs.Common.{◌+◌, ◌*◌, max}
use Rattle.pipe_tree.specs.Bounds.{depth_of}
use Rattle.pipe_tree.specs.TreeCopies.{formula_of}
use Rattle.pipe_kinds.proofs.expressions.+expressions.Given as goal

-- each part is less deep than the expression that it is a part of
abbrev pub decreases-expression : goal.decreases-expression
decreases-expression l = 4 * depth_of (formula_of l.e.now)

abbrev pub decreases-of_this_kind : goal.decreases-of_this_kind
decreases-of_this_kind l = 4 * depth_of (formula_of l.e.now) + 1

abbrev pub decreases-both : goal.decreases-both
decreases-both l = 4 * max (depth_of (formula_of l.a.now)) (depth_of (formula_of l.b.now)) + 2

abbrev pub decreases-alike : goal.decreases-alike
decreases-alike l = 4 * max (depth_of (formula_of l.a.now)) (depth_of (formula_of l.b.now)) + 2

abbrev pub decreases-operands : goal.decreases-operands
decreases-operands l = 4 * max (depth_of (formula_of l.a.now)) (depth_of (formula_of l.b.now)) + 3

abbrev pub decreases-choice : goal.decreases-choice
decreases-choice l =
    4 * max (depth_of (formula_of l.c.now)) (max (depth_of (formula_of l.when_true.now)) (depth_of (formula_of l.when_false.now))) + 3
