-- The items that a bench runs on: those of a linear congruential generator.
use Rattle.std.specs.Prelude.{ℕ, zero, suc, ◌+◌, ◌*◌, ◌/◌, ◌%◌, ◌^◌, List, [], ◌∷◌}

-- the state behind a state
abbrev pub next_state : ℕ → ℕ
next_state x = (6364136223846793005 * x + 1442695040888963407) % 2 ^ 64

-- the item of a state: its upper 31 bits
abbrev pub item_of : ℕ → ℕ
item_of x = x / 2 ^ 33

-- so many items, each of the state behind that of the item before it
abbrev pub items_behind : ℕ → ℕ → List ℕ
items_behind x zero = []
items_behind x (suc count) = item_of (next_state x) ∷ items_behind (next_state x) count

-- so many items of a seed
abbrev pub bench_items : ℕ → ℕ → List ℕ
bench_items seed count = items_behind seed count
