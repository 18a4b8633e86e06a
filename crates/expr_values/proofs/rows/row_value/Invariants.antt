use Rattle.std.proofs.Common.{◌≡◌, drop}
use Rattle.list_denotation.specs.Copies.{terms_of}
use Rattle.list_denotation.specs.Values.{row_value}
use Rattle.expr_values.proofs.RowValues.{row_after}
use Rattle.expr_values.proofs.rows.row_value.Given as goal

abbrev pub invariant-loop-i : goal.invariant-loop-i
invariant-loop-i l = row_value (terms_of l.exprs) l.env l.inputs ≡ row_after l.row (row_value (terms_of (drop l.i l.exprs)) l.env l.inputs)
