-- What is promised of the definitions. Each statement has one name, which its law and those who stand on it cite.
use Rattle.std.specs.Prelude.{ℕ, ◌≤◌, List}
use Rattle.list_denotation.specs.Terms.{Term}
use Rattle.turn_blocks.specs.StateBlocks.{words_piece}

-- Words that are set take variables from the first free one on.
abbrev pub SetWordsTakeLaterVariables : Type 0
SetWordsTakeLaterVariables =
    (rows : List ℕ) (t k : ℕ) (es : List Term) (next : ℕ)
    → next ≤ (words_piece rows t k es next).next
