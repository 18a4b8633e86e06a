-- The bytes that a file of values is made of.
use Rattle.std.specs.Prelude.{ℕ, Bool, ◌==◌, ◌&&◌, ◌||◌, not, nat_le}

-- a space, a tab, a carriage return or a line feed
abbrev pub is_blank : ℕ → Bool
is_blank c = (c == 32) || (c == 9) || (c == 13) || (c == 10)

-- any other byte, of which items are made
abbrev pub is_inner : ℕ → Bool
is_inner c = not (is_blank c)

-- an ASCII digit
abbrev pub is_digit : ℕ → Bool
is_digit c = nat_le 48 c && nat_le c 57

-- the sign -
abbrev pub is_minus : ℕ → Bool
is_minus c = c == 45
