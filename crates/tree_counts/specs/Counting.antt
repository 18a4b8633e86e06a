-- Counting what may not be too many, by its offsets.
use Rattle.std.specs.Prelude.{ℕ, zero, suc, List, [], ◌∷◌, Result, Ok, Err}
use Rattle.tree_counts.specs.declared.counts.Past.{Past}

-- how many more are allowed behind these offsets, or the first of them that is one too many
abbrev pub count_of : List ℕ → ℕ → Result ℕ Past
count_of [] room = Ok room
count_of (at ∷ offsets) zero = Err (record { at = at })
count_of (at ∷ offsets) (suc room) = count_of offsets room
