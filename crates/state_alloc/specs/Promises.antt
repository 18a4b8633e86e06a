-- What is promised of the definitions. Each statement has one name, which its law and those who stand on it cite.
use Rattle.std.specs.Prelude.{ℕ, ◌++◌, List, All, Contains, nat_eq}
use Rattle.std.specs.List.{IsDistinct, range_with_len}
use Rattle.state_alloc.specs.Layouts.{IsLaidOut, IsFresh, IsTemporary}

-- Variables of any bound words of a scope, where they differ from one another, as those do of
-- words that aren't aliases, differ from the variables that are fresh too; and none of all these
-- is a temporary.
abbrev pub FreshVariablesDiffer : Type 0
FreshVariablesDiffer =
    (rows chosen : List ℕ) (first_temp temps first width : ℕ)
    → IsFresh rows first_temp temps first → All (Contains rows) chosen
    → IsDistinct nat_eq chosen → IsDistinct nat_eq (chosen ++ range_with_len first width)

abbrev pub WordsStandInNoTemporary : Type 0
WordsStandInNoTemporary =
    (rows chosen : List ℕ) (first_temp temps next : ℕ)
    → IsLaidOut rows first_temp temps next → All (Contains rows) chosen
    → All (λ v. ¬ IsTemporary first_temp temps v) chosen

abbrev pub FreshVariablesAreNoTemporaries : Type 0
FreshVariablesAreNoTemporaries =
    (rows : List ℕ) (first_temp temps first width : ℕ)
    → IsFresh rows first_temp temps first
    → All (λ v. ¬ IsTemporary first_temp temps v) (range_with_len first width)
