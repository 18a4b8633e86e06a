-- What is asked for where words that stand in variables are set.
use Rattle.std.specs.Prelude.{ℕ, ◌+◌, ◌<◌, ◌≤◌, ◌^◌, List, length, IsTrue, if◌then◌else◌}
use Rattle.list_denotation.specs.Scopes.{all_bound}
use Rattle.list_denotation.specs.Terms.{Term}
use Rattle.state_alloc.specs.declared.slots.Slots.{Slots}
use Rattle.turn_blocks.specs.StateBlocks.{word_needs, words_piece}
use Rattle.turn_blocks.specs.Temporaries.{row_temps}

-- the variable behind the one that setting word k may use
abbrev pub word_next : List ℕ → ℕ → ℕ → Term → ℕ → ℕ
word_next rows t k e next = if word_needs rows t k next e then next + 1 else next

-- the words from word k on are there, the expressions read bound words, the temporaries are enough, and the variables from
-- `next` on were never given out and fit 32 bits
pub record AreSettable (slots : Slots) (k : ℕ) (row : List Term) (next : ℕ) : Type 0 where
  pub words : k + length row ≤ length slots.rows
  pub few : k + length row < 2 ^ 32
  pub bound : IsTrue (all_bound (length slots.rows) row)
  pub temporaries : row_temps row ≤ slots.temps
  pub free : slots.next ≤ next
  pub room : (words_piece slots.rows slots.first_temp k row next).next < 2 ^ 32
