-- Steps of the loops that make the rows of a source.
use Rattle.std.proofs.Common.{◌≡◌, ℕ, zero, suc, ◌+◌, ◌-◌, ◌<◌, ◌≤◌, List, [], ◌∷◌, ◌++◌, length, drop, get_or, Some, refl, arith}
use Rattle.std.proofs.lemmas.Option.{slice_get-get_or}
use Rattle.std.specs.Prelude.{slice_get}
use Rattle.strm_num.proofs.Lists.{drop_at}
use Rattle.strm_num.specs.Words.{sum_of}
use Rattle.list_denotation.specs.Denotation.{words_from}
use Rattle.list_denotation.specs.Rows.{Ends, End, Cut, Broken, firsts, single_rows, unfold_rows}
use Rattle.list_denotation.specs.Values.{Fault, Got, Is, Fails}
use Rattle.list_model.specs.Listed.{onto}
use Rattle.list_model.proofs.RowLists.{onto_push}

pub first_step : (out : List (List ℕ)) (items : List ℕ) (n i x : ℕ) → slice_get items i ≡ Some x → i < n → onto (out ++ (x ∷ []) ∷ []) (firsts (n - (i + 1)) (single_rows (drop (i + 1) items))) ≡ onto out (firsts (n - i) (single_rows (drop i items)))
first_step out items n i x h lt =
    let e : n - i ≡ suc (n - (i + 1)) = omega arith in rw (onto_push, drop_at items i x h, e) refl

pub first_cut : (out : List (List ℕ)) (items : List ℕ) (n i : ℕ) → i < length items → n ≤ i → onto out (Ends Cut) ≡ onto out (firsts (n - i) (single_rows (drop i items)))
first_cut out items n i h le =
    let e : n - i ≡ 0 = omega arith in rw (drop_at items i (get_or items i 0) (slice_get-get_or items i 0 h), e) refl

pub range_step : (out : List (List ℕ)) (count n i x : ℕ) → i < count → i < n → onto (out ++ (x ∷ []) ∷ []) (firsts (n - (i + 1)) (single_rows (words_from (count - (i + 1)) (sum_of x 1)))) ≡ onto out (firsts (n - i) (single_rows (words_from (count - i) x)))
range_step out count n i x h lt =
    let e : n - i ≡ suc (n - (i + 1)) = omega arith in
    let k : count - i ≡ suc (count - (i + 1)) = omega arith in rw (onto_push, k, e) refl

pub range_cut : (out : List (List ℕ)) (count n i x : ℕ) → i < count → n ≤ i → onto out (Ends Cut) ≡ onto out (firsts (n - i) (single_rows (words_from (count - i) x)))
range_cut out count n i x h le =
    let e : n - i ≡ 0 = omega arith in
    let k : count - i ≡ suc (count - (i + 1)) = omega arith in rw (k, e) refl

module _ (guard : List ℕ → Got ℕ) (item next : List ℕ → Got (List ℕ)) (out : List (List ℕ)) where
  pub unfold_guard_fault : (n : ℕ) (state : List ℕ) (f : Fault) → guard state ≡ Fails f → onto out (Ends (Broken f)) ≡ onto out (unfold_rows guard item next n state)
  unfold_guard_fault zero state f q = rw q refl
  unfold_guard_fault (suc n) state f q = rw q refl

  pub unfold_ends : (n : ℕ) (state : List ℕ) (g : ℕ) → guard state ≡ Is g → g ≡ 0 → onto out (Ends End) ≡ onto out (unfold_rows guard item next n state)
  unfold_ends zero state g q z = rw (q, z) refl
  unfold_ends (suc n) state g q z = rw (q, z) refl

  pub unfold_cut : (n : ℕ) (state : List ℕ) (g : ℕ) → guard state ≡ Is g → (g ≡ 0 → ⊥) → n ≡ 0 → onto out (Ends Cut) ≡ onto out (unfold_rows guard item next n state)
  unfold_cut n state zero q ne z = absurd (ne refl)
  unfold_cut n state (suc g) q ne z = rw (z, q) refl

  pub unfold_item_fault : (n : ℕ) (state : List ℕ) (g : ℕ) (f : Fault) → guard state ≡ Is g → (g ≡ 0 → ⊥) → (n ≡ 0 → ⊥) → item state ≡ Fails f → onto out (Ends (Broken f)) ≡ onto out (unfold_rows guard item next n state)
  unfold_item_fault zero state g f q ne nz i = absurd (nz refl)
  unfold_item_fault (suc n) state zero f q ne nz i = absurd (ne refl)
  unfold_item_fault (suc n) state (suc g) f q ne nz i = rw (q, i) refl

  pub unfold_next_fault : (n : ℕ) (state : List ℕ) (g : ℕ) (r : List ℕ) (f : Fault) → guard state ≡ Is g → (g ≡ 0 → ⊥) → (n ≡ 0 → ⊥) → item state ≡ Is r → next state ≡ Fails f → onto out (Ends (Broken f)) ≡ onto out (unfold_rows guard item next n state)
  unfold_next_fault zero state g r f q ne nz i x = absurd (nz refl)
  unfold_next_fault (suc n) state zero r f q ne nz i x = absurd (ne refl)
  unfold_next_fault (suc n) state (suc g) r f q ne nz i x = rw (q, i, x) refl

  pub unfold_step : (n : ℕ) (state : List ℕ) (g : ℕ) (r s : List ℕ) → guard state ≡ Is g → (g ≡ 0 → ⊥) → (n ≡ 0 → ⊥) → item state ≡ Is r → next state ≡ Is s → onto (out ++ r ∷ []) (unfold_rows guard item next (n - 1) s) ≡ onto out (unfold_rows guard item next n state)
  unfold_step zero state g r s q ne nz i x = absurd (nz refl)
  unfold_step (suc n) state zero r s q ne nz i x = absurd (ne refl)
  unfold_step (suc n) state (suc g) r s q ne nz i x =
      let e : suc n - 1 ≡ n = omega arith in rw (e, onto_push, q, i, x) refl

pub ruleset first_steps = (first_step, first_cut)

pub ruleset range_steps = (range_step, range_cut)

pub ruleset unfold_steps = (unfold_guard_fault, unfold_ends, unfold_cut, unfold_item_fault, unfold_next_fault, unfold_step)
