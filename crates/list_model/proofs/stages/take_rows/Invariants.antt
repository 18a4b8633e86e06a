use Rattle.std.proofs.Common.{◌≡◌, ◌≤◌, length}
use Rattle.list_denotation.specs.Rows.{take_rows}
use Rattle.list_model.specs.Listed.{listed}
use Rattle.list_model.proofs.stages.take_rows.Given as goal

abbrev pub invariant-past : goal.invariant-past
invariant-past l = (l.k ≤ length l.rows) × (take_rows l.k (listed l.rows l.fn.of.ending) ≡ take_rows l.k (listed l.fn.of.rows l.fn.of.ending))

abbrev pub decreases-past : goal.decreases-past
decreases-past l = length l.rows
