-- Steps of the loop that joins inner rows, and the work that they add.
use Rattle.std.proofs.Common.{◌≡◌, ℕ, ◌+◌, ◌≤◌, List, [], ◌∷◌, ◌++◌, length, drop, Some, refl, sym, ap, ◌∙◌, arith}
use Rattle.std.proofs.lemmas.List.{drop_all}
use Rattle.std.specs.Prelude.{slice_get}
use Rattle.strm_num.proofs.Lists.{drop_at}
use Rattle.list_denotation.specs.Rows.{Rows, Row, followed_by, join_rows}
use Rattle.list_denotation.specs.Work.{after_end, sum_over}
use Rattle.list_model.specs.declared.rows.Ending.{Ending}
use Rattle.list_model.specs.declared.rows.Ending.TheVariants as code
use Rattle.list_model.specs.Listed.{onto, listed}
use Rattle.list_model.proofs.RowLists.{onto_append}

followed_end : (rows : List (List ℕ)) (rest : Rows) → followed_by (listed rows code.End) rest ≡ onto rows rest
followed_end [] rest = refl
followed_end (r ∷ rows) rest = ap (Row r) (followed_end rows rest)

followed_other : (rows : List (List ℕ)) (e : Ending) (rest : Rows) → (e ≡ code.End → ⊥) → followed_by (listed rows e) rest ≡ listed rows e
followed_other [] code.End rest ne = absurd (ne refl)
followed_other [] code.Cut rest ne = refl
followed_other [] code.Trap rest ne = refl
followed_other (r ∷ rows) e rest ne = ap (Row r) (followed_other rows e rest ne)

after_all : {A : Type 0} (rows : List (List ℕ)) (x y : A) → after_end (listed rows code.End) x y ≡ x
after_all [] x y = refl
after_all (r ∷ rows) x y = after_all rows x y

after_other : {A : Type 0} (rows : List (List ℕ)) (e : Ending) (x y : A) → (e ≡ code.End → ⊥) → after_end (listed rows e) x y ≡ y
after_other [] code.End x y ne = absurd (ne refl)
after_other [] code.Cut x y ne = refl
after_other [] code.Trap x y ne = refl
after_other (r ∷ rows) e x y ne = after_other rows e x y ne

module _ (inner : List ℕ → Rows) (out rows part : List (List ℕ)) (e f : Ending) (i : ℕ) (r : List ℕ) where
  pub join_step : slice_get rows i ≡ Some r → listed part f ≡ inner r → f ≡ code.End → onto (out ++ part) (join_rows (listed (drop (i + 1) rows) e) inner) ≡ onto out (join_rows (listed (drop i rows) e) inner)
  join_step h q z =
      let k : inner r ≡ listed part code.End = sym q ∙ ap (listed part) z in rw (onto_append, drop_at rows i r h, k, followed_end) refl

  pub join_stop : slice_get rows i ≡ Some r → listed part f ≡ inner r → (f ≡ code.End → ⊥) → listed (out ++ part) f ≡ onto out (join_rows (listed (drop i rows) e) inner)
  join_stop h q ne =
      rw (onto_append, drop_at rows i r h, ← q) (ap (onto out) (sym (followed_other part f (join_rows (listed (drop (i + 1) rows) e) inner) ne)))

module _ (inner : List ℕ → Rows) (adds : List ℕ → ℕ) (rows part : List (List ℕ)) (e f : Ending) (i : ℕ) (r : List ℕ) where
  pub sum_step : slice_get rows i ≡ Some r → listed part f ≡ inner r → f ≡ code.End → sum_over (listed (drop i rows) e) inner adds ◌+◌ 0 ≡ adds r + sum_over (listed (drop (i + 1) rows) e) inner adds ◌+◌ 0
  sum_step h q z =
      let k : inner r ≡ listed part code.End = sym q ∙ ap (listed part) z in rw (drop_at rows i r h, k, after_all) refl

  pub sum_stop : slice_get rows i ≡ Some r → listed part f ≡ inner r → (f ≡ code.End → ⊥) → sum_over (listed (drop i rows) e) inner adds ◌+◌ 0 ≡ adds r
  sum_stop h q ne =
      let z = after_other part f (sum_over (listed (drop (i + 1) rows) e) inner adds ◌+◌ 0) 0 ne in rw (drop_at rows i r h, ← q, z) (omega arith)

pub sum_at : (inner : List ℕ → Rows) (adds : List ℕ → ℕ) (rows : List (List ℕ)) (e : Ending) (i : ℕ) (r : List ℕ) → slice_get rows i ≡ Some r → adds r ≤ sum_over (listed (drop i rows) e) inner adds ◌+◌ 0
sum_at inner adds rows e i r h = rw (drop_at rows i r h) (omega arith)

pub sum_end : (inner : List ℕ → Rows) (adds : List ℕ → ℕ) (rows : List (List ℕ)) (e : Ending) (i : ℕ) → length rows ≤ i → sum_over (listed (drop i rows) e) inner adds ◌+◌ 0 ≡ 0
sum_end inner adds rows e i h = rw (drop_all i rows h) refl

pub ruleset inner_steps = (join_step, join_stop, sum_step, sum_stop, sum_at, sum_end)
