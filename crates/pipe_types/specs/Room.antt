-- Room for the words that streams bind.
use Rattle.std.specs.Prelude.{ℕ, ◌+◌, ◌*◌, ◌≤◌, length}
use Rattle.pipe_limits.specs.declared.TheConstants.{MOST_COMPONENTS, MOST_NESTING}
use Rattle.pipe_kinds.specs.declared.scope.Scope.{Scope}

-- so many streams inside one another may each bind a row
abbrev pub HasRoomFor : Scope → ℕ → Type 0
HasRoomFor scope nesting = length scope.bound.items + MOST_COMPONENTS * nesting ≤ MOST_COMPONENTS * MOST_NESTING
