-- Longest runs at the start of characters.
use Rattle.std.proofs.Common.{◌≡◌, ℕ, ◌+◌, ◌-◌, ◌<◌, ◌≤◌, List, [], ◌∷◌, ◌++◌, length, get_or, take, drop, Bool, true, false, cond, refl, sym, ap, subst, ◌∙◌, arith}
use Rattle.std.specs.List.{prefix_len}
use Rattle.std.proofs.Math.Numerals.{one-add}
use Rattle.std.proofs.lemmas.List.{take_rest, length-drop}
use Rattle.std.proofs.lemmas.List.Sums.{prefix_len-le-length}
use Rattle.pipe_lexer.specs.Pieces.{IsRun, BeginsRun}

-- a prefix that passes stands there as a longest run
run_at_prefix : (test : ℕ → Bool) (xs : List ℕ) → IsRun test (take (prefix_len test xs) xs) (drop (prefix_len test xs) xs)
run_at_prefix test [] = tt
run_at_prefix test (x ∷ xs) = by_test (test x) refl (run_at_prefix test xs)
  where
    by_test : (b : Bool) → test x ≡ b → IsRun test (take (prefix_len test xs) xs) (drop (prefix_len test xs) xs) → IsRun test (take (cond b (1 + prefix_len test xs) 0) (x ∷ xs)) (drop (cond b (1 + prefix_len test xs) 0) (x ∷ xs))
    by_test true e run =
        subst (λ (n : ℕ). IsRun test (take n (x ∷ xs)) (drop n (x ∷ xs))) (sym (one-add (prefix_len test xs))) (e, run)
    by_test false e run = e

-- a first character, and what goes on with it behind
pub begins_run : (begins continues : ℕ → Bool) (cs : List ℕ) (n : ℕ) → 0 < length cs → begins (get_or cs 0 0) ≡ true → n ≡ prefix_len continues (take (length cs - 1) (drop 1 cs)) → BeginsRun begins continues (take (1 + n) cs) (drop (1 + n) cs)
begins_run begins continues [] n some b is = absurd (omega arith)
begins_run begins continues (c ∷ cs) n some b is =
    let len : n ≡ prefix_len continues cs = is ∙ ap (prefix_len continues) (take_rest (c ∷ cs) 1) in
    subst (λ (k : ℕ). BeginsRun begins continues (take k (c ∷ cs)) (drop k (c ∷ cs))) (sym (one-add n))
    (subst (λ (k : ℕ). BeginsRun begins continues (c ∷ take k cs) (drop k cs)) (sym len) (b, run_at_prefix continues cs))

-- and it ends within the characters
pub begins_run_within : (continues : ℕ → Bool) (cs : List ℕ) (n : ℕ) → 0 < length cs → n ≡ prefix_len continues (take (length cs - 1) (drop 1 cs)) → 1 + n ≤ length cs
begins_run_within continues cs n some is =
    let len : n ≡ prefix_len continues (drop 1 cs) = is ∙ ap (prefix_len continues) (take_rest cs 1) in
    let at_most = prefix_len-le-length continues (drop 1 cs) in
    let left = length-drop 1 cs in
    omega arith

-- a test has one answer
pub clash : (test : ℕ → Bool) (c d : ℕ) → c ≡ d → test c ≡ false → test d ≡ true → ⊥
clash test c d same fails passes = cc

same_cons : {c d : ℕ} {t u : List ℕ} → c ≡ d → t ≡ u → (c ∷ t) ≡ (d ∷ u)
same_cons p q = cc

-- two longest runs at one start are the same
pub same_run : (test : ℕ → Bool) (t r u s : List ℕ) → t ++ r ≡ u ++ s → IsRun test t r → IsRun test u s → (t ≡ u) × (r ≡ s)
same_run test [] r [] s e f g = (refl, e)
same_run test [] [] (d ∷ u) s e f g = absurd cc
same_run test [] (x ∷ r) (d ∷ u) s e f g =
    let first : x ≡ d = cc in absurd (clash test x d first f g.0)
same_run test (c ∷ t) r [] [] e f g = absurd cc
same_run test (c ∷ t) r [] (x ∷ s) e f g =
    let first : c ≡ x = cc in absurd (clash test x c (sym first) g f.0)
same_run test (c ∷ t) r (d ∷ u) s e f g =
    let first : c ≡ d = cc in
    let tail : t ++ r ≡ u ++ s = cc in
    let same = same_run test t r u s tail f.1 g.1 in
    (same_cons first same.0, same.1)

pub same_begins_run : (begins continues : ℕ → Bool) (t r u s : List ℕ) → t ++ r ≡ u ++ s → BeginsRun begins continues t r → BeginsRun begins continues u s → (t ≡ u) × (r ≡ s)
same_begins_run begins continues [] r u s e f g = absurd f
same_begins_run begins continues (c ∷ t) r [] s e f g = absurd g
same_begins_run begins continues (c ∷ t) r (d ∷ u) s e f g =
    let first : c ≡ d = cc in
    let tail : t ++ r ≡ u ++ s = cc in
    let same = same_run continues t r u s tail f.1 g.1 in
    (same_cons first same.0, same.1)
