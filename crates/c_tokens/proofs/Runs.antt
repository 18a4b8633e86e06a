-- Longest runs at the start of characters are one, and so are texts of one length.
use Rattle.std.proofs.Common.{◌≡◌, ℕ, List, [], ◌∷◌, ◌++◌, length, Bool, true, false, refl, sym, arith}
use Rattle.c_tokens.specs.Characters.{continues_word}
use Rattle.c_tokens.specs.Pieces.{IsRun, BeginsRun}

-- a test has one answer
clash : (test : ℕ → Bool) (c d : ℕ) → c ≡ d → test c ≡ false → test d ≡ true → ⊥
clash test c d same fails passes = cc

same_cons : {c d : ℕ} {t u : List ℕ} → c ≡ d → t ≡ u → (c ∷ t) ≡ (d ∷ u)
same_cons p q = cc

-- texts of one length before two rests of one text
pub same_prefix : (t r u s : List ℕ) → t ++ r ≡ u ++ s → length t ≡ length u → (t ≡ u) × (r ≡ s)
same_prefix [] r [] s e l = (refl, e)
same_prefix [] r (d ∷ u) s e l = absurd (omega arith)
same_prefix (c ∷ t) r [] s e l = absurd (omega arith)
same_prefix (c ∷ t) r (d ∷ u) s e l =
    let first : c ≡ d = cc in
    let tail : t ++ r ≡ u ++ s = cc in
    let same = same_prefix t r u s tail (omega arith) in
    (same_cons first same.0, same.1)

-- two longest runs at one start are the same
same_run : (test : ℕ → Bool) (t r u s : List ℕ) → t ++ r ≡ u ++ s → IsRun test t r → IsRun test u s → (t ≡ u) × (r ≡ s)
same_run test [] r [] s e f g = (refl, e)
same_run test [] [] (d ∷ u) s e f g = absurd cc
same_run test [] (x ∷ r) (d ∷ u) s e f g =
    let first : x ≡ d = cc in absurd (clash test x d first f g.0)
same_run test (c ∷ t) r [] [] e f g = absurd cc
same_run test (c ∷ t) r [] (x ∷ s) e f g =
    let first : c ≡ x = cc in absurd (clash test x c (sym first) g f.0)
same_run test (c ∷ t) r (d ∷ u) s e f g =
    let first : c ≡ d = cc in
    let tail : t ++ r ≡ u ++ s = cc in
    let same = same_run test t r u s tail f.1 g.1 in
    (same_cons first same.0, same.1)

pub same_begins_run : (begins : ℕ → Bool) (t r u s : List ℕ) → t ++ r ≡ u ++ s → BeginsRun begins t r → BeginsRun begins u s → (t ≡ u) × (r ≡ s)
same_begins_run begins [] r u s e f g = absurd f
same_begins_run begins (c ∷ t) r [] s e f g = absurd g
same_begins_run begins (c ∷ t) r (d ∷ u) s e f g =
    let first : c ≡ d = cc in
    let tail : t ++ r ≡ u ++ s = cc in
    let same = same_run continues_word t r u s tail f.1 g.1 in
    (same_cons first same.0, same.1)
