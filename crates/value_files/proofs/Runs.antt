-- Longest runs at the start of bytes.
use Rattle.std.proofs.Common.{◌≡◌, ℕ, ◌+◌, List, [], ◌∷◌, ◌++◌, take, drop, Bool, true, false, cond, refl, sym, subst}
use Rattle.std.specs.List.{prefix_len}
use Rattle.std.proofs.Math.Numerals.{one-add}
use Rattle.value_files.specs.Items.{IsRun}

-- a prefix that passes stands there as a longest run
pub run_at_prefix : (test : ℕ → Bool) (xs : List ℕ) → IsRun test (take (prefix_len test xs) xs) (drop (prefix_len test xs) xs)
run_at_prefix test [] = tt
run_at_prefix test (x ∷ xs) = by_test (test x) refl (run_at_prefix test xs)
  where
    by_test : (b : Bool) → test x ≡ b → IsRun test (take (prefix_len test xs) xs) (drop (prefix_len test xs) xs) → IsRun test (take (cond b (1 + prefix_len test xs) 0) (x ∷ xs)) (drop (cond b (1 + prefix_len test xs) 0) (x ∷ xs))
    by_test true e run =
        subst (λ (n : ℕ). IsRun test (take n (x ∷ xs)) (drop n (x ∷ xs))) (sym (one-add (prefix_len test xs))) (e, run)
    by_test false e run = e

-- what follows a longest run does not pass
pub run_stops : (test : ℕ → Bool) (text : List ℕ) (c : ℕ) (rest : List ℕ) → IsRun test text (c ∷ rest) → test c ≡ false
run_stops test [] c rest run = run
run_stops test (d ∷ text) c rest run = run_stops test text c rest run.1

-- a test has one answer
clash : (test : ℕ → Bool) (c d : ℕ) → c ≡ d → test c ≡ false → test d ≡ true → ⊥
clash test c d same fails passes = cc

same_cons : {c d : ℕ} {t u : List ℕ} → c ≡ d → t ≡ u → (c ∷ t) ≡ (d ∷ u)
same_cons p q = cc

-- two longest runs at one start are the same
pub same_run : (test : ℕ → Bool) (t r u s : List ℕ) → t ++ r ≡ u ++ s → IsRun test t r → IsRun test u s → (t ≡ u) × (r ≡ s)
same_run test [] r [] s e f g = (refl, e)
same_run test [] [] (d ∷ u) s e f g = absurd cc
same_run test [] (x ∷ r) (d ∷ u) s e f g =
    let first : x ≡ d = cc in absurd (clash test x d first f g.0)
same_run test (c ∷ t) r [] [] e f g = absurd cc
same_run test (c ∷ t) r [] (x ∷ s) e f g =
    let first : c ≡ x = cc in absurd (clash test x c (sym first) g f.0)
same_run test (c ∷ t) r (d ∷ u) s e f g =
    let first : c ≡ d = cc in
    let tail : t ++ r ≡ u ++ s = cc in
    let same = same_run test t r u s tail f.1 g.1 in
    (same_cons first same.0, same.1)
