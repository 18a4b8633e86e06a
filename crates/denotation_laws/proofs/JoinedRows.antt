-- What is made of inner lists depends on the rows that have them.
use Rattle.std.proofs.Common.{◌≡◌, inl, inr, ℕ, List, refl}
use Rattle.list_denotation.specs.Rows.{Rows, Ends, Row, join_rows}
use Rattle.denotation_laws.specs.RowWords.{IsRowOf}

pub join_same : (f g : List ℕ → Rows) (rows : Rows) → ((r : List ℕ) → IsRowOf r rows → f r ≡ g r) → join_rows rows f ≡ join_rows rows g
join_same f g (Ends e) same = refl
join_same f g (Row r rest) same = rw (same r (inl refl), join_same f g rest (λ s among. same s (inr among))) refl
