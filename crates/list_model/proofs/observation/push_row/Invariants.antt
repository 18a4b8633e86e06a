use Rattle.std.proofs.Common.{◌≡◌, drop, ◌++◌, []}
use Rattle.list_denotation.specs.Observation.{row_events}
use Rattle.list_model.proofs.observation.push_row.Given as goal

abbrev pub invariant-loop-i : goal.invariant-loop-i
invariant-loop-i l = l.events ++ row_events (drop l.i l.row) [] ≡ l.initial.events ++ row_events l.row []
