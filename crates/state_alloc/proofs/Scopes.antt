-- The lists of variables that words are bound to and given up from.
use Rattle.std.proofs.Common.{◌≡◌, ℕ, zero, suc, ◌+◌, ◌-◌, ◌≤◌, List, [], ◌∷◌, ◌++◌, length, take, sym, ap, ◌∙◌, arith, append_assoc, add-one, length-append}
use Rattle.std.proofs.Math.Seq.{take-append_seam}
use Rattle.std.proofs.lemmas.List.FromFn.{length-range_with_len}
use Rattle.std.specs.List.{range_with_len}

-- one more variable stands behind the others
pub one_more : (first width : ℕ) → range_with_len first (width + 1) ≡ range_with_len first width ++ (first + width) ∷ []
one_more first zero = ap (λ n. n ∷ []) (omega arith)
one_more first (suc width) =
    ap (λ n. range_with_len first n) (add-one (suc width))
    ∙ ap (λ ns. first ∷ ns)
    (ap (range_with_len (first + 1)) (sym (add-one width)) ∙ one_more (first + 1) width
    ∙ ap (λ n. range_with_len (first + 1) width ++ n ∷ []) (omega arith))

-- so it does behind the words that were bound before
pub pushed_variable : (old rows new : List ℕ) (first width v : ℕ) → v ≡ first + width → rows ≡ old ++ range_with_len first width → new ≡ rows ++ v ∷ [] → new ≡ old ++ range_with_len first (width + 1)
pushed_variable old rows new first width v next were is =
    let behind : old ++ (range_with_len first width ++ (first + width) ∷ []) ≡ old ++ range_with_len first (width + 1) = ap (λ ns. old ++ ns) (sym (one_more first width)) in
    is ∙ ap (λ ns. ns ++ v ∷ []) were ∙ append_assoc old (range_with_len first width) (v ∷ [])
    ∙ ap (λ n. old ++ (range_with_len first width ++ n ∷ [])) next ∙ behind

-- the words before those that are given up stay
pub kept_words : (kept gone : List ℕ) (width : ℕ) → length gone ≡ width → take (length (kept ++ gone) - width) (kept ++ gone) ≡ kept
kept_words kept gone width h =
    let n : length (kept ++ gone) - width ≡ length kept = omega (arith, length-append kept gone) in
    ap (λ k. take k (kept ++ gone)) n ∙ take-append_seam kept gone

-- a bind that is given up leaves the words that were bound before
pub given_up : (old rows : List ℕ) (first width : ℕ) → rows ≡ old ++ range_with_len first width → take (length rows - width) rows ≡ old
given_up old rows first width were =
    ap (λ ns. take (length ns - width) ns) were ∙ kept_words old (range_with_len first width) width (length-range_with_len first width)

-- as many words can be given up as were bound
pub can_give_up : (old rows : List ℕ) (first width : ℕ) → rows ≡ old ++ range_with_len first width → width ≤ length rows
can_give_up old rows first width were =
    omega (arith, ap length were, length-append old (range_with_len first width), length-range_with_len first width)
