-- Scopes: the inputs with their positions, and the bound words from the outermost on. A newer name hides an
-- older one of the same spelling, inputs too.
use Rattle.std.specs.Prelude.{ℕ, zero, suc, ◌+◌, List, [], ◌∷◌, ◌++◌, length, map, Option, Some, None, Bool, true, false, ◌||◌, bytes_eq, if◌then◌else◌, Ok, Err}
use Rattle.std.specs.List.{IsDistinct}
use Rattle.list_denotation.specs.declared.kind.Kind.{Kind}
use Rattle.pipe_tree.specs.Trees.{Label, Pattern, Declaration}
use Rattle.kind_rules.specs.declared.fault.TypeFault.TheVariants as fault
use Rattle.kind_rules.specs.declared.meaning.Meaning.{Meaning}
use Rattle.kind_rules.specs.declared.meaning.Meaning.TheVariants as meaning
use Rattle.kind_rules.specs.Checked.{Checked, after, unless}

-- a bound word: its name and its kind
pub record Bound : Type 0 where
  pub name : List ℕ
  pub kind : Kind

pub record Scope : Type 0 where
  pub inputs : List Declaration
  pub bound : List Bound

-- the second, where there is one
abbrev pub newer : Option Meaning → Option Meaning → Option Meaning
newer older None = older
newer older (Some m) = Some m

-- the last of the bound words with this name, which begin at this position
abbrev pub bound_from : ℕ → List Bound → List ℕ → Option Meaning
bound_from i [] name = None
bound_from i (b ∷ bs) name = newer (if bytes_eq b.name name then Some (meaning.Bound i b.kind) else None) (bound_from (i + 1) bs name)

abbrev pub input_from : ℕ → List Declaration → List ℕ → Option Meaning
input_from i [] name = None
input_from i (d ∷ ds) name = newer (if bytes_eq d.name.text name then Some (meaning.Input i d.kind) else None) (input_from (i + 1) ds name)

abbrev pub meaning_of : Scope → List ℕ → Option Meaning
meaning_of scope name = newer (input_from 0 scope.inputs name) (bound_from 0 scope.bound name)

-- ---- names

abbrev pub names_of : List Label → List (List ℕ)
names_of = map (λ (n : Label). n.text)

-- no two of the names are spelled alike
abbrev pub AreDistinct : List Label → Type 0
AreDistinct ns = IsDistinct bytes_eq (names_of ns)

abbrev pub is_among : List ℕ → List (List ℕ) → Bool
is_among name [] = false
is_among name (other ∷ names) = bytes_eq other name || is_among name names

-- the names with those before them, unless one is among these or stands twice
abbrev pub distinct_names : List (List ℕ) → List Label → Checked (List (List ℕ))
distinct_names names [] = Ok names
distinct_names names (n ∷ ns) = if is_among n.text names then Err (fault.Twice n.at) else distinct_names (names ++ n.text ∷ []) ns

-- ---- patterns

-- each name with a kind
abbrev pub bind : List Label → List Kind → List Bound
bind [] ks = []
bind (n ∷ ns) [] = []
bind (n ∷ ns) (k ∷ ks) = record { name = n.text; kind = k } ∷ bind ns ks

abbrev pub is_wide : ℕ → ℕ → Bool
is_wide zero zero = true
is_wide (suc n) (suc m) = is_wide n m
is_wide _ _ = false

-- a pattern over a row of these kinds, beside these names: its width first, then its names
abbrev pub pattern_of : List (List ℕ) → Pattern → List Kind → Checked (List Bound)
pattern_of names p ks =
    unless (is_wide (length p.names) (length ks)) (fault.WidthMismatch p.at) (after (distinct_names names p.names) (λ all. Ok (bind p.names ks)))

-- the scope with more bound words
abbrev pub with_bound : Scope → List Bound → Scope
with_bound scope bs = record { inputs = scope.inputs; bound = scope.bound ++ bs }
