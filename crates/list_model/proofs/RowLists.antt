-- Lists of rows: one more row, one list behind another, and how many there are.
use Rattle.std.proofs.Common.{◌≡◌, ℕ, List, [], ◌∷◌, ◌++◌, length, refl, ap, arith}
use Rattle.list_model.specs.declared.rows.Ending.{Ending}
use Rattle.list_denotation.specs.Rows.{Rows, Row}
use Rattle.list_denotation.specs.Work.{row_count}
use Rattle.list_model.specs.Listed.{onto, listed}

pub onto_push : (rows : List (List ℕ)) (r : List ℕ) (rest : Rows) → onto (rows ++ r ∷ []) rest ≡ onto rows (Row r rest)
onto_push [] r rest = refl
onto_push (s ∷ rows) r rest = ap (Row s) (onto_push rows r rest)

pub onto_append : (rows more : List (List ℕ)) (rest : Rows) → onto (rows ++ more) rest ≡ onto rows (onto more rest)
onto_append [] more rest = refl
onto_append (s ∷ rows) more rest = ap (Row s) (onto_append rows more rest)

pub count_listed : (rows : List (List ℕ)) (e : Ending) → row_count (listed rows e) ≡ length rows
count_listed [] e = refl
count_listed (r ∷ rows) e = let h = count_listed rows e in omega arith
