use Rattle.std.proofs.Common.{◌≡◌, ◌++◌}
use Rattle.list_denotation.specs.Copies.{term_of, terms_of}
use Rattle.list_denotation.specs.Rows.{unfold_rows}
use Rattle.list_denotation.specs.Values.{value, row_value}
use Rattle.list_model.specs.Listed.{onto}
use Rattle.list_model.proofs.sources.unfold_from.Given as goal

abbrev pub invariant-states : goal.invariant-states
invariant-states l =
    onto l.rows (unfold_rows (λ s. value (term_of l.guard) (l.env ++ s) l.inputs) (λ s. row_value (terms_of l.item) (l.env ++ s) l.inputs) (λ s. row_value (terms_of l.next) (l.env ++ s) l.inputs) l.left l.state)
    ≡ unfold_rows (λ s. value (term_of l.guard) (l.env ++ s) l.inputs) (λ s. row_value (terms_of l.item) (l.env ++ s) l.inputs) (λ s. row_value (terms_of l.next) (l.env ++ s) l.inputs) l.n l.fn.state

abbrev pub decreases-states : goal.decreases-states
decreases-states l = l.left
