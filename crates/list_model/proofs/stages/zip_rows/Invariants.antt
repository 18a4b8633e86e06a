use Rattle.std.proofs.Common.{◌≡◌, drop}
use Rattle.list_denotation.specs.Rows.{zip_rows}
use Rattle.list_model.specs.Listed.{onto, listed}
use Rattle.list_model.proofs.stages.zip_rows.Given as goal

abbrev pub invariant-loop-i : goal.invariant-loop-i
invariant-loop-i l =
    onto l.rows (zip_rows (listed (drop l.i l.left.rows) l.left.ending) (listed (drop l.i l.right.rows) l.right.ending))
    ≡ zip_rows (listed l.left.rows l.left.ending) (listed l.right.rows l.right.ending)
