-- The characters that pieces are made of, and their bytes.
use Rattle.std.specs.Prelude.{ℕ, List, length, Bool, ◌==◌, ◌&&◌, ◌||◌, not, nat_le, encode_utf8_all}
use Rattle.unicode_ident.specs.Ident.{is_xid_start, is_xid_continue}

-- a space, a tab, a carriage return or a line feed
abbrev pub is_blank : ℕ → Bool
is_blank c = (c == 32) || (c == 9) || (c == 13) || (c == 10)

-- #
abbrev pub begins_comment : ℕ → Bool
begins_comment c = c == 35

-- any but a line feed
abbrev pub continues_comment : ℕ → Bool
continues_comment c = not (c == 10)

-- an ASCII digit
abbrev pub is_digit : ℕ → Bool
is_digit c = nat_le 48 c && nat_le c 57

-- an identifier's first character, or _
abbrev pub begins_identifier : ℕ → Bool
begins_identifier c = is_xid_start c || (c == 95)

-- a character of an identifier behind its first
abbrev pub continues_identifier : ℕ → Bool
continues_identifier c = is_xid_continue c

-- how many bytes the characters have as UTF-8
abbrev pub size_of : List ℕ → ℕ
size_of cs = length (encode_utf8_all cs)
