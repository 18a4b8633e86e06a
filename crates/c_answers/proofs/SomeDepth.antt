-- The brackets of tokens are within the limit, or with one token they are the first time past it.
use Rattle.std.proofs.Common.{◌≡◌, ◌⊎◌, ℕ, ◌<◌, nat_le, List, [], ◌∷◌, ◌++◌, true, false, refl, ap, arith, inl, inr}
use Rattle.std.proofs.lemmas.Bool.Decides.{nat_tests}
use Rattle.strm_num.proofs.Truths.{true_both}
use Rattle.c_tokens.specs.Cutting.{Token}
use Rattle.c_grammar.specs.Reading.{whats}
use Rattle.c_faults.specs.Answers.{HasTokenAt, IsTooDeep}
use Rattle.c_faults.specs.Brackets.{depth_with, depth_behind, is_within}
use Rattle.pipe_limits.specs.declared.TheConstants.{MOST_OPEN_BRACKETS}
use Rattle.c_answers.proofs.Beginnings.{by_test}

-- with this token, and with none before it, more brackets are open than may be, where so many are at the start
record IsDeepFrom (depth : ℕ) (toks : List Token) : Type 0 where
  pub before : List Token
  pub token : Token
  pub after : List Token
  pub parts : toks ≡ before ++ token ∷ after
  pub within : is_within depth (whats before) ≡ true
  pub too_deep : MOST_OPEN_BRACKETS < depth_with (depth_behind depth (whats before)) token.what

abbrev WithinOrDeep : ℕ → List Token → Type 0
WithinOrDeep depth toks = (is_within depth (whats toks) ≡ true) ⊎ IsDeepFrom depth toks

one_more : (t : Token) (toks : List Token) (depth : ℕ) → nat_le (depth_with depth t.what) MOST_OPEN_BRACKETS ≡ true → WithinOrDeep (depth_with depth t.what) toks → WithinOrDeep depth (t ∷ toks)
one_more t toks depth holds (inl within) =
    inl (true_both (nat_le (depth_with depth t.what) MOST_OPEN_BRACKETS) (is_within (depth_with depth t.what) (whats toks)) holds within)
one_more t toks depth holds (inr deep) = inr (record {
  before = t ∷ deep.before;
  token = deep.token;
  after = deep.after;
  parts = ap (λ (ts : List Token). t ∷ ts) deep.parts;
  within = true_both (nat_le (depth_with depth t.what) MOST_OPEN_BRACKETS) (is_within (depth_with depth t.what) (whats deep.before)) holds deep.within;
  too_deep = deep.too_deep;
})

past : (n : ℕ) → nat_le n MOST_OPEN_BRACKETS ≡ false → MOST_OPEN_BRACKETS < n
past n e = grind (arith, nat_tests)

within_or_deep_from : (toks : List Token) (depth : ℕ) → WithinOrDeep depth toks
within_or_deep_from [] depth = inl refl
within_or_deep_from (t ∷ toks) depth = by_test {A = WithinOrDeep depth (t ∷ toks)} (nat_le (depth_with depth t.what) MOST_OPEN_BRACKETS)
    (λ holds. one_more t toks depth holds (within_or_deep_from toks (depth_with depth t.what)))
    (λ fails. inr (record { before = []; token = t; after = toks; parts = refl; within = refl; too_deep = past (depth_with depth t.what) fails }))

abbrev pub WithinOrTooDeep : List Token → Type 0
WithinOrTooDeep toks = (is_within 0 (whats toks) ≡ true) ⊎ ((at : ℕ) × HasTokenAt at IsTooDeep toks)

by_depth : (toks : List Token) → WithinOrDeep 0 toks → WithinOrTooDeep toks
by_depth toks (inl within) = inl within
by_depth toks (inr deep) = inr (
  deep.token.at,
  record {
    before = deep.before;
    token = deep.token;
    after = deep.after;
    parts = deep.parts;
    is_there = refl;
    holds_of_it = record { within = deep.within; too_deep = deep.too_deep };
  },
)

pub within_or_too_deep : (toks : List Token) → WithinOrTooDeep toks
within_or_too_deep toks = by_depth toks (within_or_deep_from toks 0)
