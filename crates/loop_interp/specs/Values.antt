-- What the value of an operand or of a test is computed as.
use Rattle.std.specs.Prelude.{Option, Some, None}
use Rattle.list_denotation.specs.Values.{Got, Is, Fails, Stuck}

-- a value, and none where the run is undefined
abbrev pub got_from : {A : Type 0} → Option A → Got A
got_from (Some x) = Is x
got_from None = Fails Stuck
