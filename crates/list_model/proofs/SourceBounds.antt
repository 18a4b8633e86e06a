-- A source whose rows are fewer than the bound has no more at a greater bound. So a source may be cut off where there is no
-- more room for its work.
use Rattle.std.proofs.Common.{◌≡◌, ℕ, zero, suc, ◌+◌, ◌<◌, ◌≤◌, List, [], ◌∷◌, ◌++◌, length, Result, Ok, Err, refl, sym, ap, ◌∙◌, arith, inl, inr}
use Rattle.std.proofs.lemmas.Bool.{cases_lt}
use Rattle.std.specs.Prelude.{min, slice_get, IfOk, OnOk}
use Rattle.list_denotation.specs.declared.input.Input.{Input}
use Rattle.list_denotation.specs.Denotation.{words_between, denotation}
use Rattle.list_denotation.specs.Inputs.{items_in}
use Rattle.list_denotation.specs.Rows.{Rows, Ends, Row, End, Cut, unless_broken, firsts, single_rows, unfold_rows}
use Rattle.list_denotation.specs.Terms.{Term, Array, Range, Unfold}
use Rattle.list_denotation.specs.Values.{Got, Is, Fails, choice, value, row_value}
use Rattle.list_denotation.specs.Work.{row_count}
use Rattle.list_model.specs.declared.fault.ModelFault.{ModelFault}
use Rattle.list_model.specs.declared.fault.ModelFault.TheVariants.{TooMuch}
use Rattle.list_model.specs.declared.rows.ListedRows.{ListedRows}
use Rattle.list_model.specs.Listed.{listed}
use Rattle.list_model.proofs.RowLists.{count_listed}

-- at a greater bound there are no fewer rows, and the same where they are fewer than the bound
pub record IsBounded (at : ℕ → Rows) : Type 0 where
  pub grows : (m n : ℕ) → m ≤ n → row_count (at m) ≤ row_count (at n)
  pub settled : (m n : ℕ) → m ≤ n → row_count (at m) < m → at n ≡ at m

-- ---- first rows

firsts_grow : (rs : List (List ℕ)) (m n : ℕ) → m ≤ n → row_count (firsts m rs) ≤ row_count (firsts n rs)
firsts_grow [] m n h = omega arith
firsts_grow (r ∷ rs) zero n h = omega arith
firsts_grow (r ∷ rs) (suc m) zero h = absurd (omega arith)
firsts_grow (r ∷ rs) (suc m) (suc n) h = let k = firsts_grow rs m n (omega arith) in omega arith

firsts_settled : (rs : List (List ℕ)) (m n : ℕ) → m ≤ n → row_count (firsts m rs) < m → firsts n rs ≡ firsts m rs
firsts_settled [] m n h lt = refl
firsts_settled (r ∷ rs) zero n h lt = absurd (omega arith)
firsts_settled (r ∷ rs) (suc m) zero h lt = absurd (omega arith)
firsts_settled (r ∷ rs) (suc m) (suc n) h lt = ap (Row r) (firsts_settled rs m n (omega arith) (omega arith))

firsts_bounded : (rs : List (List ℕ)) → IsBounded (λ n. firsts n rs)
firsts_bounded rs = record { grows = firsts_grow rs; settled = firsts_settled rs }

-- ---- states

-- a state's row and what goes on from the next state, by what its guard, its item and its next state are
abbrev state_rows : Got ℕ → Got (List ℕ) → Got (List ℕ) → (List ℕ → Rows) → Rows
state_rows g i s go = unless_broken g (λ x. choice x (Ends End) (unless_broken i (λ r. unless_broken s (λ t. Row r (go t)))))

no_rows : (g : Got ℕ) → row_count (unless_broken g (λ x. choice x (Ends End) (Ends Cut))) ≡ 0
no_rows (Is zero) = refl
no_rows (Is (suc x)) = refl
no_rows (Fails f) = refl

state_grows : (a b : List ℕ → Rows) → ((t : List ℕ) → row_count (a t) ≤ row_count (b t)) → (g : Got ℕ) (i s : Got (List ℕ)) → row_count (state_rows g i s a) ≤ row_count (state_rows g i s b)
state_grows a b k (Fails f) i s = omega arith
state_grows a b k (Is zero) i s = omega arith
state_grows a b k (Is (suc x)) (Fails f) s = omega arith
state_grows a b k (Is (suc x)) (Is r) (Fails f) = omega arith
state_grows a b k (Is (suc x)) (Is r) (Is t) = let h = k t in omega arith

state_settled : (m : ℕ) (a b : List ℕ → Rows) → ((t : List ℕ) → row_count (a t) < m → b t ≡ a t) → (g : Got ℕ) (i s : Got (List ℕ)) → row_count (state_rows g i s a) < suc m → state_rows g i s b ≡ state_rows g i s a
state_settled m a b k (Fails f) i s lt = refl
state_settled m a b k (Is zero) i s lt = refl
state_settled m a b k (Is (suc x)) (Fails f) s lt = refl
state_settled m a b k (Is (suc x)) (Is r) (Fails f) lt = refl
state_settled m a b k (Is (suc x)) (Is r) (Is t) lt = ap (Row r) (k t (omega arith))

module _ (guard : List ℕ → Got ℕ) (item next : List ℕ → Got (List ℕ)) where
  unfold_grow : (m n : ℕ) → m ≤ n → (state : List ℕ) → row_count (unfold_rows guard item next m state) ≤ row_count (unfold_rows guard item next n state)
  unfold_grow zero n h state = let e = no_rows (guard state) in omega arith
  unfold_grow (suc m) zero h state = absurd (omega arith)
  unfold_grow (suc m) (suc n) h state =
      state_grows (unfold_rows guard item next m) (unfold_rows guard item next n) (unfold_grow m n (omega arith)) (guard state) (item state) (next state)

  unfold_settled : (m n : ℕ) → m ≤ n → (state : List ℕ) → row_count (unfold_rows guard item next m state) < m → unfold_rows guard item next n state ≡ unfold_rows guard item next m state
  unfold_settled zero n h state lt = absurd (omega arith)
  unfold_settled (suc m) zero h state lt = absurd (omega arith)
  unfold_settled (suc m) (suc n) h state lt =
      state_settled m (unfold_rows guard item next m) (unfold_rows guard item next n) (unfold_settled m n (omega arith)) (guard state) (item state) (next state) lt

  unfold_bounded : (state : List ℕ) → IsBounded (λ n. unfold_rows guard item next n state)
  unfold_bounded state = record { grows = λ m n h. unfold_grow m n h state; settled = λ m n h. unfold_settled m n h state }

-- ---- sources

unless_bounded : {A : Type 0} (x : Got A) (at : A → ℕ → Rows) → ((a : A) → IsBounded (at a)) → IsBounded (λ n. unless_broken x (λ a. at a n))
unless_bounded (Is a) at k = k a
unless_bounded (Fails f) at k = record { grows = λ m n h. omega arith; settled = λ m n h lt. refl }

module _ (env : List ℕ) (inputs : List Input) where
  pub array_bounded : (k : ℕ) → IsBounded (denotation (Array k) env inputs)
  array_bounded k = firsts_bounded (single_rows (items_in (slice_get inputs k)))

  pub range_bounded : (a b : Term) → IsBounded (denotation (Range a b) env inputs)
  range_bounded a b =
      unless_bounded (value a env inputs) (λ low n. unless_broken (value b env inputs) (λ high. firsts n (single_rows (words_between low high))))
      (λ low. unless_bounded (value b env inputs) (λ high n. firsts n (single_rows (words_between low high)))
      (λ high. firsts_bounded (single_rows (words_between low high))))

  pub unfold_source_bounded : (seed : List Term) (guard : Term) (item next : List Term) → IsBounded (denotation (Unfold seed guard item next) env inputs)
  unfold_source_bounded seed guard item next =
      let g : List ℕ → Got ℕ = λ s. value guard (env ++ s) inputs in
      let i : List ℕ → Got (List ℕ) = λ s. row_value item (env ++ s) inputs in
      let t : List ℕ → Got (List ℕ) = λ s. row_value next (env ++ s) inputs in
      unless_bounded (row_value seed env inputs) (λ s n. unfold_rows g i t n s) (unfold_bounded g i t)

-- ---- openings: rows that were made at the bound or at what room there is, whichever is less

module _ (at : ℕ → Rows) (bounded : IsBounded at) (d : ListedRows) (n room : ℕ) (made : listed d.rows d.ending ≡ at (min n room)) where
  made_count : row_count (at (min n room)) ≡ length d.rows
  made_count = ap row_count (sym made) ∙ count_listed d.rows d.ending

  made_at : length d.rows < room → at n ≡ at (min n room)
  made_at lt = elim (cases_lt room n) [
    | inl h ↦ (let e : min n room ≡ room = omega arith in let k = made_count in rw e (bounded.settled room n (omega arith) (omega (arith, rw e at k))))
    | inr h ↦ (let e : min n room ≡ n = omega arith in rw e refl)
  ]

  made_more : length d.rows ≤ row_count (at n)
  made_more = let k = made_count in let g = bounded.grows (min n room) n (omega arith) in omega arith

  pub opened_rows : (result : Result ListedRows ModelFault) (left : ℕ) → IfOk result (λ u. u ≡ d) → OnOk result (room ≡ (length d.rows + 1) + left) → IfOk result (λ u. listed u.rows u.ending ≡ at n)
  opened_rows (Ok u) left same work = ap (λ v. listed v.rows v.ending) same ∙ (made ∙ sym (made_at (omega arith)))
  opened_rows (Err e) left same work = tt

  pub opened_work : (result : Result ListedRows ModelFault) (left : ℕ) → OnOk result (room ≡ (length d.rows + 1) + left) → OnOk result (room ≡ (row_count (at n) + 1) + left)
  opened_work (Ok u) left work = let e = ap row_count (made_at (omega arith)) in let k = made_count in omega arith
  opened_work (Err e) left work = tt

  pub opened_too_much : (result : Result ListedRows ModelFault) → (result ≡ Err TooMuch → room ≤ length d.rows) → result ≡ Err TooMuch → room < row_count (at n) + 1
  opened_too_much result full is = let f = full is in let m = made_more in omega arith
