-- Expressions whose words have other numbers: they have the same value where each word stands at its number.
use Rattle.std.proofs.Common.{◌≡◌, ℕ, suc, ◌+◌, ◌-◌, ◌≤◌, ◌<◌, List, [], ◌∷◌, ◌++◌, length, Bool, true, false, refl, sym, ap, ◌∙◌, arith, get_or}
use Rattle.std.proofs.lemmas.List.{get_or_append_left, get_or-append_right}
use Rattle.std.proofs.lemmas.Bool.{ltb-true, ltb-false}
use Rattle.std.specs.Prelude.{nat_lt, slice_index, if◌then◌else◌}
use Rattle.list_denotation.specs.declared.input.Input.{Input}
use Rattle.list_denotation.specs.Terms.{Term, Lit, Truth, Var, Param, Len, Neg, Not, Bin, And, Or, If}
use Rattle.list_denotation.specs.Values.{Is, value}
use Rattle.stateful_core.specs.WordValues.{word_value, word_values}
use Rattle.act_moves.specs.Renumbering.{with_room, renumber, renumber_row}

module _ (inputs : List Input) (f : ℕ → ℕ) (env rest : List ℕ) (same : (k : ℕ) → slice_index env (f k) ≡ slice_index rest k) where
  pub value_renumbered : (e : Term) → value (renumber f e) env inputs ≡ value e rest inputs
  value_renumbered (Lit w) = refl
  value_renumbered (Truth b) = refl
  value_renumbered (Var k) = ap Is (same k)
  value_renumbered (Param k) = refl
  value_renumbered (Len k) = refl
  value_renumbered (Neg a) = rw (value_renumbered a) refl
  value_renumbered (Not a) = rw (value_renumbered a) refl
  value_renumbered (Bin op a b) = rw (value_renumbered a, value_renumbered b) refl
  value_renumbered (And a b) = rw (value_renumbered a, value_renumbered b) refl
  value_renumbered (Or a b) = rw (value_renumbered a, value_renumbered b) refl
  value_renumbered (If c a b) = rw (value_renumbered c, value_renumbered a, value_renumbered b) refl

  pub values_renumbered : (es : List Term) → word_values (renumber_row f es) env inputs ≡ word_values es rest inputs
  values_renumbered [] = refl
  values_renumbered (e ∷ es) = rw (value_renumbered e, values_renumbered es) refl

module _ (inputs : List Input) where
  pub length_values : (es : List Term) (env : List ℕ) → length (word_values es env inputs) ≡ length es
  length_values [] env = refl
  length_values (e ∷ es) env = ap suc (length_values es env)

  pub values_append : (es fs : List Term) (env : List ℕ) → word_values (es ++ fs) env inputs ≡ word_values es env inputs ++ word_values fs env inputs
  values_append [] fs env = refl
  values_append (e ∷ es) fs env = ap (λ z. word_value e env inputs ∷ z) (values_append es fs env)

-- ---- words where there is room for others

before_room : (a z b : List ℕ) (k : ℕ) → k < length a → slice_index (a ++ (z ++ b)) k ≡ slice_index (a ++ b) k
before_room a z b k h = get_or_append_left a (z ++ b) 0 k h ∙ sym (get_or_append_left a b 0 k h)

behind_room : (a z b : List ℕ) (k : ℕ) → length a ≤ k → slice_index (a ++ (z ++ b)) (k + length z) ≡ slice_index (a ++ b) k
behind_room a z b k h =
    get_or-append_right a (z ++ b) (length a) (k + length z) 0 refl (omega arith)
    ∙ get_or-append_right z b (length z) (k + length z - length a) 0 refl (omega arith)
    ∙ ap (λ i. get_or b i 0) (omega arith)
    ∙ sym (get_or-append_right a b (length a) k 0 refl h)

around_room : (a z b : List ℕ) (k : ℕ) (t : Bool) → nat_lt k (length a) ≡ t → slice_index (a ++ (z ++ b)) (if t then k else (k + length z)) ≡ slice_index (a ++ b) k
around_room a z b k true e = before_room a z b k (ltb-true k (length a) e)
around_room a z b k false e = behind_room a z b k (ltb-false k (length a) e)

-- the words before and behind the room, however their lists are grouped
pub room_at : (a z b whole rest : List ℕ) (p d : ℕ) → length a ≡ p → length z ≡ d → whole ≡ a ++ (z ++ b) → rest ≡ a ++ b → (k : ℕ) → slice_index whole (with_room p d k) ≡ slice_index rest k
room_at a z b whole rest p d h q e f k = rw (← h, ← q, e, f) (around_room a z b k (nat_lt k (length a)) refl)
