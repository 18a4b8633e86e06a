-- A state with words written over it: its words, and what is written in two places.
use Rattle.std.proofs.Common.{◌≡◌, ℕ, zero, suc, ◌+◌, ◌<◌, ◌≤◌, List, [], ◌∷◌, length, refl, sym, ap, ◌∙◌, arith}
use Rattle.std.specs.Prelude.{slice_index}
use Rattle.stateful_core.specs.Actions.{overwrite}

over_nothing : (k : ℕ) (xs : List ℕ) → overwrite k xs [] ≡ []
over_nothing zero [] = refl
over_nothing zero (x ∷ xs) = refl
over_nothing (suc k) xs = refl

pub length_overwrite : (k : ℕ) (xs s : List ℕ) → length (overwrite k xs s) ≡ length s
length_overwrite zero [] s = refl
length_overwrite zero (x ∷ xs) [] = refl
length_overwrite zero (x ∷ xs) (y ∷ s) = ap suc (length_overwrite zero xs s)
length_overwrite (suc k) xs [] = refl
length_overwrite (suc k) xs (y ∷ s) = ap suc (length_overwrite k xs s)

pub overwrite_before : (k : ℕ) (xs s : List ℕ) (j : ℕ) → j < k → slice_index (overwrite k xs s) j ≡ slice_index s j
overwrite_before zero xs s j lt = absurd (omega (arith, lt))
overwrite_before (suc k) xs [] j lt = refl
overwrite_before (suc k) xs (y ∷ s) zero lt = refl
overwrite_before (suc k) xs (y ∷ s) (suc j) lt = overwrite_before k xs s j (omega arith)

pub overwrite_behind : (k : ℕ) (xs s : List ℕ) (j : ℕ) → k + length xs ≤ j → slice_index (overwrite k xs s) j ≡ slice_index s j
overwrite_behind zero [] s j le = refl
overwrite_behind zero (x ∷ xs) [] j le = refl
overwrite_behind zero (x ∷ xs) (y ∷ s) zero le = absurd (omega (arith, le))
overwrite_behind zero (x ∷ xs) (y ∷ s) (suc j) le = overwrite_behind zero xs s j (omega arith)
overwrite_behind (suc k) xs [] j le = refl
overwrite_behind (suc k) xs (y ∷ s) zero le = absurd (omega (arith, le))
overwrite_behind (suc k) xs (y ∷ s) (suc j) le = overwrite_behind k xs s j (omega arith)

pub overwrite_at : (k : ℕ) (xs s : List ℕ) (i : ℕ) → i < length xs → k + length xs ≤ length s → slice_index (overwrite k xs s) (k + i) ≡ slice_index xs i
overwrite_at zero [] s i lt le = absurd (omega (arith, lt))
overwrite_at zero (x ∷ xs) [] i lt le = absurd (omega arith)
overwrite_at zero (x ∷ xs) (y ∷ s) zero lt le = refl
overwrite_at zero (x ∷ xs) (y ∷ s) (suc i) lt le =
    let h = overwrite_at zero xs s i (omega arith) (omega arith) in
    let e : 0 + i ≡ i = omega arith in
    let f : 0 + suc i ≡ suc i = omega arith in
    ap (λ n. slice_index (x ∷ overwrite zero xs s) n) f ∙ ap (λ n. slice_index (overwrite zero xs s) n) (sym e) ∙ h
overwrite_at (suc k) xs [] i lt le = absurd (omega arith)
overwrite_at (suc k) xs (y ∷ s) i lt le =
    let f : suc k + i ≡ suc (k + i) = omega arith in
    ap (λ n. slice_index (y ∷ overwrite k xs s) n) f ∙ overwrite_at k xs s i lt (omega arith)

-- words behind others may be written before them
pub overwrite_twice : (k : ℕ) (xs : List ℕ) (m : ℕ) (ys s : List ℕ) → k + length xs ≤ m → overwrite m ys (overwrite k xs s) ≡ overwrite k xs (overwrite m ys s)
overwrite_twice k xs m ys [] le = ap (λ s. overwrite m ys s) (over_nothing k xs) ∙ over_nothing m ys ∙ sym (ap (λ s. overwrite k xs s) (over_nothing m ys) ∙ over_nothing k xs)
overwrite_twice zero [] m ys (y ∷ s) le = refl
overwrite_twice zero (x ∷ xs) zero ys (y ∷ s) le = absurd (omega arith)
overwrite_twice zero (x ∷ xs) (suc m) ys (y ∷ s) le = ap (λ z. x ∷ z) (overwrite_twice zero xs m ys s (omega arith))
overwrite_twice (suc k) xs zero ys (y ∷ s) le = absurd (omega arith)
overwrite_twice (suc k) xs (suc m) ys (y ∷ s) le = ap (λ z. y ∷ z) (overwrite_twice k xs m ys s (omega arith))
