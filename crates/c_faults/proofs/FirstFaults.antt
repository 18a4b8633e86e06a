-- The first token at which something holds is one: the first that is too deep, and the first name that isn't declared.
use Rattle.std.proofs.Common.{◌≡◌, ℕ, ◌<◌, ◌≤◌, List, [], ◌∷◌, ◌++◌, nat_le, true, All, sym, ap, subst, ◌∙◌, arith, true≢false}
use Rattle.std.proofs.lemmas.Bool.{leb-true}
use Rattle.std.proofs.lemmas.List.Elements.{All-head, All-tail, All-same}
use Rattle.strm_num.proofs.Truths.{both_true}
use Rattle.exact_reader.proofs.OneOutcome.{Same, Earlier, Later, cuts}
use Rattle.loop_ir.specs.DeclaredNames.{Names}
use Rattle.c_tokens.specs.Cutting.{Token}
use Rattle.c_tokens.specs.Pieces.{What}
use Rattle.c_grammar.specs.Reading.{whats}
use Rattle.c_faults.specs.Answers.{HasTokenAt, IsTooDeep}
use Rattle.c_faults.specs.Brackets.{depth_with, depth_behind, is_within}
use Rattle.pipe_limits.specs.declared.TheConstants.{MOST_OPEN_BRACKETS}
use Rattle.c_faults.specs.Undeclared.{IsUndeclared, IsDeclared}

-- ---- the first token

module _ (holds : List Token → Token → Type 0) (once : (x d : List Token) (t u : Token) → holds x t → holds (x ++ t ∷ d) u → ⊥) where
  same_first : {t u : Token} {r s : List Token} → t ∷ r ≡ u ∷ s → t ≡ u
  same_first e = cc

  no_later : (x y d r s : List Token) (t u v : Token) → holds x t → holds y u → y ≡ x ++ v ∷ d → t ∷ r ≡ v ∷ s → ⊥
  no_later x y d r s t u v first second e same =
      let token : v ≡ t = sym (same_first same) in
      once x d t u first (subst (λ z. holds z u) (e ∙ ap (λ w. x ++ w ∷ d) token) second)

  -- where it holds of no token behind one of which it holds, it does at one offset
  pub one_offset : (toks : List Token) (a b : ℕ) → HasTokenAt a holds toks → HasTokenAt b holds toks → a ≡ b
  one_offset toks a b f g =
      elim (cuts f.before (f.token ∷ f.after) g.before (g.token ∷ g.after) (sym f.parts ∙ g.parts)) [
        | Same i j ↦ sym f.is_there ∙ ap (λ (t : Token). t.at) (same_first j) ∙ g.is_there
        | Earlier t d i j ↦ absurd (no_later f.before g.before d f.after (d ++ g.token ∷ g.after) f.token g.token t f.holds_of_it g.holds_of_it i j)
        | Later t d i j ↦ absurd (no_later g.before f.before d g.after (d ++ f.token ∷ f.after) g.token f.token t g.holds_of_it f.holds_of_it i j)
      ]

-- ---- brackets

-- tokens that are within the limit are so at each
within_there : (x rest : List Token) (t : Token) (depth : ℕ) → is_within depth (whats (x ++ t ∷ rest)) ≡ true → depth_with (depth_behind depth (whats x)) t.what ≤ MOST_OPEN_BRACKETS
within_there [] rest t depth h =
    let parts = both_true (nat_le (depth_with depth t.what) MOST_OPEN_BRACKETS) (is_within (depth_with depth t.what) (whats rest)) h in
    leb-true (depth_with depth t.what) MOST_OPEN_BRACKETS parts.0
within_there (u ∷ x) rest t depth h =
    let next = depth_with depth u.what in
    let parts = both_true (nat_le next MOST_OPEN_BRACKETS) (is_within next (whats (x ++ t ∷ rest))) h in
    within_there x rest t next parts.1

deep_or_within : (x rest : List Token) (t : Token) → MOST_OPEN_BRACKETS < depth_with (depth_behind 0 (whats x)) t.what → is_within 0 (whats (x ++ t ∷ rest)) ≡ true → ⊥
deep_or_within x rest t deep within =
    let there = within_there x rest t 0 within in omega arith

pub one_depth_fault : (toks : List Token) (a b : ℕ) → HasTokenAt a IsTooDeep toks → HasTokenAt b IsTooDeep toks → a ≡ b
one_depth_fault = one_offset IsTooDeep (λ x d t u f g. deep_or_within x d t f.too_deep g.within)

pub no_depth_fault : (toks : List Token) (at : ℕ) → is_within 0 (whats toks) ≡ true → HasTokenAt at IsTooDeep toks → ⊥
no_depth_fault toks at within f =
    deep_or_within f.before f.after f.token f.holds_of_it.too_deep (ap (λ ts. is_within 0 (whats ts)) (sym f.parts) ∙ within)

-- ---- names

-- those before the token are declared, and the token isn't
abbrev pub FirstUndeclared : Names → List Token → Token → Type 0
FirstUndeclared names before t = All (λ (u : Token). IsDeclared names u.what) before × IsUndeclared names t.what

holds_there : (P : Token → Type 0) (x rest : List Token) (t : Token) → All P (x ++ t ∷ rest) → P t
holds_there P [] rest t all = All-head P t rest all
holds_there P (u ∷ x) rest t all = holds_there P x rest t (All-tail P u (x ++ t ∷ rest) all)

declared_or_undeclared : (names : Names) (what : What) → IsDeclared names what → IsUndeclared names what → ⊥
declared_or_undeclared names what f g = true≢false (sym (f g.sort g.number g.name) ∙ g.undeclared)

pub one_undeclared : (names : Names) (toks : List Token) (a b : ℕ) → HasTokenAt a (FirstUndeclared names) toks → HasTokenAt b (FirstUndeclared names) toks → a ≡ b
one_undeclared names =
    one_offset (FirstUndeclared names) (λ x d t u f g. declared_or_undeclared names t.what (holds_there (λ (v : Token). IsDeclared names v.what) x d t g.0) f.1)

pub no_undeclared : (names : Names) (toks : List Token) (at : ℕ) → All (λ (u : Token). IsDeclared names u.what) toks → HasTokenAt at (FirstUndeclared names) toks → ⊥
no_undeclared names toks at all f =
    let declared = holds_there (λ (v : Token). IsDeclared names v.what) f.before f.after f.token (All-same (λ (v : Token). IsDeclared names v.what) (f.before ++ f.token ∷ f.after) toks (sym f.parts) all) in
    declared_or_undeclared names f.token.what declared f.holds_of_it.1
