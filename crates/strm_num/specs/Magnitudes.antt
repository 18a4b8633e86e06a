-- Words as a sign and a magnitude, on which the signed operations are computed without signed numbers.
use Rattle.std.specs.Prelude.{ℕ, ◌^◌, Bool, true, false, not, nat_lt, if◌then◌else◌}
use Rattle.strm_num.specs.Words.{negation_of}

-- whether the signed value is below 0
abbrev pub is_negative : ℕ → Bool
is_negative x = not (nat_lt x (2 ^ 63))

-- the distance of the signed value from 0
abbrev pub magnitude_of : ℕ → ℕ
magnitude_of x = if is_negative x then negation_of x else x

-- the word at this distance from 0, below 0 where the truth says so
abbrev pub with_sign : Bool → ℕ → ℕ
with_sign true m = negation_of m
with_sign false m = m

-- whether exactly one of two truths holds
abbrev pub xor : Bool → Bool → Bool
xor true b = not b
xor false b = b
