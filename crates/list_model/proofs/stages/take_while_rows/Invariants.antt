use Rattle.std.proofs.Common.{◌≡◌, drop, ◌++◌}
use Rattle.list_denotation.specs.Copies.{term_of}
use Rattle.list_denotation.specs.Rows.{take_while_rows}
use Rattle.list_denotation.specs.Values.{value}
use Rattle.list_model.specs.Listed.{onto, listed}
use Rattle.list_model.proofs.stages.take_while_rows.Given as goal

abbrev pub invariant-loop-i : goal.invariant-loop-i
invariant-loop-i l =
    onto l.rows (take_while_rows (λ r. value (term_of l.e) (l.env ++ r) l.inputs) (listed (drop l.i l.of.rows) l.of.ending))
    ≡ take_while_rows (λ r. value (term_of l.e) (l.env ++ r) l.inputs) (listed l.of.rows l.of.ending)
