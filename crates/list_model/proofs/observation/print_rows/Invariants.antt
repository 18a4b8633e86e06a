use Rattle.std.proofs.Common.{◌≡◌, drop}
use Rattle.list_denotation.specs.Observation.{print_rows}
use Rattle.list_model.specs.Listed.{listed}
use Rattle.list_model.proofs.EventSteps.{seen_after}
use Rattle.list_model.proofs.observation.print_rows.Given as goal

abbrev pub invariant-loop-i : goal.invariant-loop-i
invariant-loop-i l = seen_after l.events (print_rows (listed (drop l.i l.rows.rows) l.rows.ending)) ≡ print_rows (listed l.rows.rows l.rows.ending)
