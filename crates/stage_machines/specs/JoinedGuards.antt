-- Guards that are joined, and the one that always holds.
use Rattle.std.specs.Prelude.{Bool, true, false, if◌then◌else◌}
use Rattle.list_denotation.specs.Terms.{Term, Truth, And}

-- the guard `always`, which is true
abbrev pub is_always : Term → Bool
is_always (Truth true) = true
is_always _ = false

-- a guard that is true where both are
abbrev pub join_guards : Term → Term → Term
join_guards g h = if is_always g then h else (if is_always h then g else And g h)
