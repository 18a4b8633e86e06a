-- The inputs of a run.
use Rattle.std.specs.Prelude.{ℕ, ◌≤◌, List, [], ◌∷◌, length, Option, Some, None, All}
use Rattle.strm_num.specs.Words.{IsWord}
use Rattle.pipe_limits.specs.declared.TheConstants.{MOST_ITEMS}
use Rattle.list_denotation.specs.declared.input.Input.{Input}
use Rattle.list_denotation.specs.declared.input.Input.TheVariants.{Array, Int}
use Rattle.list_denotation.specs.declared.input.InputKind.{InputKind}
use Rattle.list_denotation.specs.declared.input.InputKind.TheVariants as kind

-- the items of an array, and none elsewhere
abbrev pub items_in : Option Input → List ℕ
items_in (Some (Array items)) = items
items_in (Some (Int w)) = []
items_in None = []

-- the word of an int, and 0 elsewhere
abbrev pub word_in : Option Input → ℕ
word_in (Some (Array items)) = 0
word_in (Some (Int w)) = w
word_in None = 0

-- an input of this kind: words, and not too many of them
abbrev pub IsInput : InputKind → Input → Type 0
IsInput kind.Array (Array items) = All IsWord items × (length items ≤ MOST_ITEMS)
IsInput kind.Array (Int w) = ⊥
IsInput kind.Int (Array items) = ⊥
IsInput kind.Int (Int w) = IsWord w

-- as many inputs as are declared, of the same kinds, in the same order
abbrev pub Fits : List Input → List InputKind → Type 0
Fits [] [] = Unit {0}
Fits [] (k ∷ ks) = ⊥
Fits (i ∷ is) [] = ⊥
Fits (i ∷ is) (k ∷ ks) = IsInput k i × Fits is ks
