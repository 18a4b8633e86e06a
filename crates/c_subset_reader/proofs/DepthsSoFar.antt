-- How many brackets are open behind the tokens so far.
use Rattle.std.proofs.Common.{◌≡◌, ℕ, ◌<◌, ◌≤◌, List, [], ◌∷◌, ◌++◌, nat_le, nat_lt, Bool, true, false, refl, sym, ap, subst, ◌∙◌}
use Rattle.std.proofs.lemmas.Bool.{le-leb, ltb-true, ltb-false}
use Rattle.strm_num.proofs.Truths.{both_true, true_both}
use Rattle.c_faults.specs.Answers.{IsTooDeep}
use Rattle.c_faults.specs.Brackets.{depth_with, depth_behind, is_within}
use Rattle.pipe_limits.specs.declared.TheConstants.{MOST_OPEN_BRACKETS}
use Rattle.c_grammar.specs.Reading.{whats}
use Rattle.c_lexer.specs.declared.cursor.Found.{Found}
use Rattle.c_tokens.specs.Cutting.{Token}
use Rattle.c_tokens.specs.Pieces.{What}
use Rattle.c_words.specs.Words.{StandsFor}
use Rattle.c_subset_reader.specs.Depths.{IsDepthOf}
use Rattle.c_subset_reader.proofs.Taking.{Extends}

depth_behind-more : (start : ℕ) (x : List Token) (t : Token) → depth_behind start (whats (x ++ t ∷ [])) ≡ depth_with (depth_behind start (whats x)) t.what
depth_behind-more start [] t = refl
depth_behind-more start (u ∷ x) t = depth_behind-more (depth_with start u.what) x t

is_within-more : (start : ℕ) (x : List Token) (t : Token) → is_within start (whats x) ≡ true → nat_le (depth_with (depth_behind start (whats x)) t.what) MOST_OPEN_BRACKETS ≡ true
    → is_within start (whats (x ++ t ∷ [])) ≡ true
is_within-more start [] t h e = true_both (nat_le (depth_with start t.what) MOST_OPEN_BRACKETS) true e refl
is_within-more start (u ∷ x) t h e =
    let parts = both_true (nat_le (depth_with start u.what) MOST_OPEN_BRACKETS) (is_within (depth_with start u.what) (whats x)) h in
    true_both (nat_le (depth_with start u.what) MOST_OPEN_BRACKETS) (is_within (depth_with start u.what) (whats (x ++ t ∷ []))) parts.0 (is_within-more (depth_with start u.what) x t parts.1 e)

-- what the test of a depth tells
pub deep_where : (depth : ℕ) (b : Bool) → b ≡ nat_lt MOST_OPEN_BRACKETS depth → b ≡ true → MOST_OPEN_BRACKETS < depth
deep_where depth b e h = ltb-true MOST_OPEN_BRACKETS depth (sym e ∙ h)

pub within_where : (depth : ℕ) (b : Bool) → b ≡ nat_lt MOST_OPEN_BRACKETS depth → b ≡ false → depth ≤ MOST_OPEN_BRACKETS
within_where depth b e h = ltb-false MOST_OPEN_BRACKETS depth (sym e ∙ h)

pub depth_of_none : IsDepthOf 0 []
depth_of_none = record { depth_is = refl; within = refl }

pub depth_of_more : (depth : ℕ) (x : List Token) (t : Token) → IsDepthOf depth x → depth_with depth t.what ≤ MOST_OPEN_BRACKETS → IsDepthOf (depth_with depth t.what) (x ++ t ∷ [])
depth_of_more depth x t h small = record {
  depth_is = ap (λ (n : ℕ). depth_with n t.what) h.depth_is ∙ sym (depth_behind-more 0 x t);
  within = is_within-more 0 x t h.within (ap (λ (n : ℕ). nat_le (depth_with n t.what) MOST_OPEN_BRACKETS) (sym h.depth_is) ∙ le-leb (depth_with depth t.what) MOST_OPEN_BRACKETS small);
}

pub depth_too_large : (depth : ℕ) (x : List Token) (t : Token) → IsDepthOf depth x → MOST_OPEN_BRACKETS < depth_with depth t.what → IsTooDeep x t
depth_too_large depth x t h large = record {
  within = h.within;
  too_deep = subst (λ (n : ℕ). MOST_OPEN_BRACKETS < depth_with n t.what) h.depth_is large;
}

-- one more, which was found
pub depth_taken : (depth next : ℕ) (found : Found) → ((what : What) → StandsFor found.token what → next ≡ depth_with depth what) → next ≤ MOST_OPEN_BRACKETS
    → Extends found (IsDepthOf depth) (IsDepthOf next)
depth_taken depth next found is small = λ before t seen h.
    let e : next ≡ depth_with depth t.what = is t.what seen.stands in
    subst (λ (n : ℕ). IsDepthOf n (before ++ t ∷ [])) (sym e) (depth_of_more depth before t h (subst (λ (n : ℕ). n ≤ MOST_OPEN_BRACKETS) e small))
