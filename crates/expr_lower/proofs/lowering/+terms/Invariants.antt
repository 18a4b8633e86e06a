use Rattle.std.proofs.Common.{◌+◌, ◌*◌, max}
use Rattle.list_denotation.specs.Copies.{term_of}
use Rattle.list_denotation.specs.Counts.{term_depth}
use Rattle.expr_lower.proofs.lowering.+terms.Given as goal

-- each part is less deep than the expression that it is a part of
abbrev pub decreases-lower_form : goal.decreases-lower_form
decreases-lower_form l = 8 * term_depth (term_of l.e.now) + 1

abbrev pub decreases-lower_parts : goal.decreases-lower_parts
decreases-lower_parts l = 8 * term_depth (term_of l.e.now)

abbrev pub decreases-lower_condition : goal.decreases-lower_condition
decreases-lower_condition l = 8 * term_depth (term_of l.e.now) + 2

abbrev pub decreases-put_value : goal.decreases-put_value
decreases-put_value l = 8 * term_depth (term_of l.e.now) + 2

abbrev pub decreases-lower_operation : goal.decreases-lower_operation
decreases-lower_operation l = 8 * max (term_depth (term_of l.a.now)) (term_depth (term_of l.b.now)) + 3

abbrev pub decreases-lower_connective : goal.decreases-lower_connective
decreases-lower_connective l = 8 * max (term_depth (term_of l.a.now)) (term_depth (term_of l.b.now)) + 3

abbrev pub decreases-lower_branches : goal.decreases-lower_branches
decreases-lower_branches l =
    8 * max (term_depth (term_of l.c.now)) (max (term_depth (term_of l.a.now)) (term_depth (term_of l.b.now))) + 3

abbrev pub decreases-lower_choice : goal.decreases-lower_choice
decreases-lower_choice l =
    8 * max (term_depth (term_of l.c.now)) (max (term_depth (term_of l.a.now)) (term_depth (term_of l.b.now))) + 4

abbrev pub decreases-lower_multiple : goal.decreases-lower_multiple
decreases-lower_multiple l = 8 * term_depth (term_of l.x.now) + 2

abbrev pub decreases-lower_binary : goal.decreases-lower_binary
decreases-lower_binary l = 8 * max (term_depth (term_of l.a.now)) (term_depth (term_of l.b.now)) + 4
