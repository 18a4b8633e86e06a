use Rattle.std.proofs.Common.{◌+◌, ◌*◌, max}
use Rattle.list_denotation.specs.Copies.{term_of}
use Rattle.list_denotation.specs.Counts.{term_depth}
use Rattle.expr_lower.proofs.temporaries.+temps.Given as goal

-- each part is less deep than the expression that it is a part of
abbrev pub decreases-temps_of : goal.decreases-temps_of
decreases-temps_of l = 3 * term_depth (term_of l.e.now) + 1

abbrev pub decreases-parts_temps : goal.decreases-parts_temps
decreases-parts_temps l = 3 * term_depth (term_of l.e.now)

abbrev pub decreases-connected_temps : goal.decreases-connected_temps
decreases-connected_temps l = 3 * max (term_depth (term_of l.a.now)) (term_depth (term_of l.b.now)) + 2

abbrev pub decreases-operation_temps : goal.decreases-operation_temps
decreases-operation_temps l = 3 * max (term_depth (term_of l.a.now)) (term_depth (term_of l.b.now)) + 2
