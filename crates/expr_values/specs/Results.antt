-- What a computed value, or none, stands for.
use Rattle.std.specs.Prelude.{Option, Some, None}
use Rattle.list_denotation.specs.Values.{Trap, Got, Is, Fails}

-- a value, and a trap where there is none
abbrev pub got_of : {A : Type 0} → Option A → Got A
got_of (Some x) = Is x
got_of None = Fails Trap
