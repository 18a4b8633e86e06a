use Rattle.std.proofs.Common.{◌≡◌, drop, ◌++◌}
use Rattle.list_denotation.specs.Copies.{terms_of}
use Rattle.list_denotation.specs.Rows.{map_rows}
use Rattle.list_denotation.specs.Values.{row_value}
use Rattle.list_model.specs.Listed.{onto, listed}
use Rattle.list_model.proofs.stages.map_rows.Given as goal

abbrev pub invariant-loop-i : goal.invariant-loop-i
invariant-loop-i l =
    onto l.rows (map_rows (λ r. row_value (terms_of l.body) (l.env ++ r) l.inputs) (listed (drop l.i l.of.rows) l.of.ending))
    ≡ map_rows (λ r. row_value (terms_of l.body) (l.env ++ r) l.inputs) (listed l.of.rows l.of.ending)
