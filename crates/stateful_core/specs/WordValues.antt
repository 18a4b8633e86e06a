-- Words of expressions that cannot trap. All but a Let are computed so: where there were no value, the word would be 0.
use Rattle.std.specs.Prelude.{ℕ, List, [], ◌∷◌}
use Rattle.list_denotation.specs.declared.input.Input.{Input}
use Rattle.list_denotation.specs.Terms.{Term}
use Rattle.list_denotation.specs.Values.{Got, Is, Fails, value}

abbrev pub or_zero : Got ℕ → ℕ
or_zero (Is x) = x
or_zero (Fails f) = 0

abbrev pub word_value : Term → List ℕ → List Input → ℕ
word_value e env inputs = or_zero (value e env inputs)

abbrev pub word_values : List Term → List ℕ → List Input → List ℕ
word_values [] env inputs = []
word_values (e ∷ es) env inputs = word_value e env inputs ∷ word_values es env inputs
