-- Longest runs at the start of characters.
use Rattle.std.proofs.Common.{◌≡◌, ℕ, ◌+◌, ◌-◌, ◌<◌, ◌≤◌, List, [], ◌∷◌, length, get_or, take, drop, Bool, true, false, cond, refl, sym, ap, subst, ◌∙◌, arith}
use Rattle.std.specs.List.{prefix_len}
use Rattle.std.proofs.Math.Numerals.{one-add}
use Rattle.std.proofs.lemmas.List.{take_rest, length-drop}
use Rattle.std.proofs.lemmas.List.Sums.{prefix_len-le-length}
use Rattle.c_tokens.specs.Characters.{continues_word}
use Rattle.c_tokens.specs.Pieces.{IsRun, BeginsRun}

-- a prefix that passes stands there as a longest run
run_at_prefix : (test : ℕ → Bool) (xs : List ℕ) → IsRun test (take (prefix_len test xs) xs) (drop (prefix_len test xs) xs)
run_at_prefix test [] = tt
run_at_prefix test (x ∷ xs) = by_test (test x) refl (run_at_prefix test xs)
  where
    by_test : (b : Bool) → test x ≡ b → IsRun test (take (prefix_len test xs) xs) (drop (prefix_len test xs) xs) → IsRun test (take (cond b (1 + prefix_len test xs) 0) (x ∷ xs)) (drop (cond b (1 + prefix_len test xs) 0) (x ∷ xs))
    by_test true e run =
        subst (λ (n : ℕ). IsRun test (take n (x ∷ xs)) (drop n (x ∷ xs))) (sym (one-add (prefix_len test xs))) (e, run)
    by_test false e run = e

-- a first character, and what goes on with it behind
pub begins_run : (begins : ℕ → Bool) (cs : List ℕ) (n : ℕ) → 0 < length cs → begins (get_or cs 0 0) ≡ true → n ≡ prefix_len continues_word (take (length cs - 1) (drop 1 cs)) → BeginsRun begins (take (1 + n) cs) (drop (1 + n) cs)
begins_run begins [] n some b is = absurd (omega arith)
begins_run begins (c ∷ cs) n some b is =
    let len : n ≡ prefix_len continues_word cs = is ∙ ap (prefix_len continues_word) (take_rest (c ∷ cs) 1) in
    subst (λ (k : ℕ). BeginsRun begins (take k (c ∷ cs)) (drop k (c ∷ cs))) (sym (one-add n))
    (subst (λ (k : ℕ). BeginsRun begins (c ∷ take k cs) (drop k cs)) (sym len) (b, run_at_prefix continues_word cs))

-- and it ends within the characters
pub begins_run_within : (cs : List ℕ) (n : ℕ) → 0 < length cs → n ≡ prefix_len continues_word (take (length cs - 1) (drop 1 cs)) → 1 + n ≤ length cs
begins_run_within cs n some is =
    let len : n ≡ prefix_len continues_word (drop 1 cs) = is ∙ ap (prefix_len continues_word) (take_rest cs 1) in
    let at_most = prefix_len-le-length continues_word (drop 1 cs) in
    let left = length-drop 1 cs in
    omega arith
