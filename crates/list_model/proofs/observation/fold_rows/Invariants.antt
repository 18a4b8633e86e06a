use Rattle.std.proofs.Common.{◌≡◌, drop, ◌++◌}
use Rattle.list_denotation.specs.Copies.{terms_of}
use Rattle.list_denotation.specs.Observation.{fold_rows}
use Rattle.list_denotation.specs.Values.{row_value}
use Rattle.list_model.specs.Listed.{listed}
use Rattle.list_model.proofs.observation.fold_rows.Given as goal

abbrev pub invariant-loop-i : goal.invariant-loop-i
invariant-loop-i l =
    fold_rows (λ s r. row_value (terms_of l.next) (s ++ r) l.inputs) l.state (listed (drop l.i l.rows.rows) l.rows.ending)
    ≡ fold_rows (λ s r. row_value (terms_of l.next) (s ++ r) l.inputs) l.fn.state (listed l.rows.rows l.rows.ending)
