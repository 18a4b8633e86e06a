-- The characters of a C text, each one byte.
use Rattle.std.specs.Prelude.{ℕ, Bool, ◌==◌, ◌&&◌, ◌||◌, not, nat_le}

-- a space, a tab, a carriage return or a line feed
abbrev pub is_blank : ℕ → Bool
is_blank c = (c == 32) || ((c == 9) || ((c == 13) || (c == 10)))

abbrev pub is_digit : ℕ → Bool
is_digit c = nat_le 48 c && nat_le c 57

-- an ASCII letter or _
abbrev pub begins_word : ℕ → Bool
begins_word c = (nat_le 65 c && nat_le c 90) || ((nat_le 97 c && nat_le c 122) || (c == 95))

-- a letter, a digit or _
abbrev pub continues_word : ℕ → Bool
continues_word c = begins_word c || is_digit c

-- a blank, or a printable character of ASCII other than \ and ?, with which a line or a comment may be spliced
abbrev pub is_in_comment : ℕ → Bool
is_in_comment c = is_blank c || (nat_le 32 c && (nat_le c 126 && (not (c == 92) && not (c == 63))))
