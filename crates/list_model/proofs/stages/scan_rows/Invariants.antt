use Rattle.std.proofs.Common.{◌≡◌, drop, ◌++◌}
use Rattle.list_denotation.specs.Copies.{terms_of}
use Rattle.list_denotation.specs.Rows.{scan_rows}
use Rattle.list_denotation.specs.Values.{row_value}
use Rattle.list_model.specs.Listed.{onto, listed}
use Rattle.list_model.proofs.stages.scan_rows.Given as goal

abbrev pub invariant-loop-i : goal.invariant-loop-i
invariant-loop-i l =
    onto l.rows (scan_rows (λ s r. row_value (terms_of l.next) (l.env ++ (s ++ r)) l.inputs) l.state (listed (drop l.i l.of.rows) l.of.ending))
    ≡ scan_rows (λ s r. row_value (terms_of l.next) (l.env ++ (s ++ r)) l.inputs) l.fn.state (listed l.of.rows l.of.ending)
