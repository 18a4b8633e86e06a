-- The inputs with what is given for them, as far as something is given for each.
use Rattle.std.specs.Prelude.{ℕ, ◌+◌, List, [], ◌∷◌, unwrap_or}
use Rattle.job_steps.specs.Bindings.{Given, bound_value}
use Rattle.list_denotation.specs.declared.input.InputKind.{InputKind}
use Rattle.status_lines.specs.declared.statuses.InputName.TheVariants.{Named, Position}

-- the value that the words bind a name to, and nothing where none does
abbrev pub value_for : List ℕ → List (List ℕ) → List ℕ
value_for name words = unwrap_or (bound_value name words) []

-- what the words bind the inputs to
abbrev pub bound_givens : List (List ℕ) → List (List ℕ) → List InputKind → List Given
bound_givens words (name ∷ names) (kind ∷ kinds) =
    record { name = Named name; kind = kind; value = value_for name words } ∷ bound_givens words names kinds
bound_givens words names kinds = []

-- what values in order give the inputs from this position on
abbrev pub placed_givens : ℕ → List (List ℕ) → List InputKind → List Given
placed_givens k (value ∷ values) (kind ∷ kinds) =
    record { name = Position k; kind = kind; value = value } ∷ placed_givens (k + 1) values kinds
placed_givens k values kinds = []
