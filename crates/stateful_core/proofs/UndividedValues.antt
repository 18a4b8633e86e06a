-- An expression without a division has a value, which is its word.
use Rattle.std.proofs.Common.{◌≡◌, ℕ, List, [], ◌∷◌, refl}
use Rattle.std.specs.Prelude.{IsTrue, All}
use Rattle.strm_num.specs.Words.{IsWord}
use Rattle.strm_num.proofs.Truths.{both_true}
use Rattle.list_denotation.specs.declared.input.Input.{Input}
use Rattle.list_denotation.specs.declared.input.InputKind.{InputKind}
use Rattle.list_denotation.specs.Inputs.{Fits}
use Rattle.list_denotation.specs.Literals.{has_words}
use Rattle.list_denotation.specs.Terms.{Term}
use Rattle.list_denotation.specs.Typing.{is_undivided, all_undivided}
use Rattle.list_denotation.specs.Values.{Got, Is, Fails, value, row_value}
use Rattle.stateful_core.specs.Laws.{Laws}
use Rattle.stateful_core.specs.WordValues.{or_zero, word_value, word_values}

abbrev pub HasValue : Got ℕ → Type 0
HasValue g = g ≡ Is (or_zero g)

is_value : (g : Got ℕ) → (w : ℕ) × (g ≡ Is w) → HasValue g
is_value (Is x) h = refl
is_value (Fails f) h = let e = h.1 in absurd cc

module _ (laws : Laws) (inputs : List Input) (env : List ℕ) where
  pub undivided_value : (e : Term) → IsTrue (is_undivided e) → HasValue (value e env inputs)
  undivided_value e h = is_value (value e env inputs) (laws.undivided env inputs e h)

  pub undivided_row : (es : List Term) → IsTrue (all_undivided es) → row_value es env inputs ≡ Is (word_values es env inputs)
  undivided_row [] h = refl
  undivided_row (e ∷ es) h =
      let parts = both_true (is_undivided e) (all_undivided es) h in
      rw (undivided_value e parts.0, undivided_row es parts.1) refl

  pub undivided_word : (kinds : List InputKind) (e : Term) → Fits inputs kinds → All IsWord env → IsTrue (is_undivided e) → IsTrue (has_words e) → IsWord (word_value e env inputs)
  undivided_word kinds e fits words h k = laws.words kinds inputs env e (word_value e env inputs) fits words k (undivided_value e h)
