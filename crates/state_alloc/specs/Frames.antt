-- What a call leaves of a scope.
use Rattle.std.specs.Prelude.{◌≡◌, ℕ, List}
use Rattle.state_alloc.specs.declared.slots.Slots.{Slots}

-- the words stand in these variables, the variables below `free` were given out, and the temporaries are those of before
pub record Becomes (before : Slots) (words : List ℕ) (free : ℕ) (after : Slots) : Type 0 where
  pub next : after.next ≡ free
  pub rows : after.rows ≡ words
  pub first_temp : after.first_temp ≡ before.first_temp
  pub temps : after.temps ≡ before.temps

-- the variables below this one were given out, and the scope has no other words than before
abbrev pub Takes : Slots → Slots → ℕ → Type 0
Takes before after free = Becomes before before.rows free after
