-- The word that an item stands for: a whole number in decimal notation, from -2^63 to 2^63 - 1.
use Rattle.std.specs.Prelude.{ℕ, ◌+◌, ◌-◌, ◌*◌, ◌^◌, List, [], ◌∷◌, Bool, true, false, ◌&&◌, length, nat_le, nat_lt, if◌then◌else◌, Option, Some, None, Result, Ok, Err}
use Rattle.std.specs.List.{list_all}
use Rattle.strm_num.specs.Magnitudes.{with_sign}
use Rattle.value_files.specs.Bytes.{is_digit, is_minus}
use Rattle.value_files.specs.declared.fault.ItemFault.{ItemFault}
use Rattle.value_files.specs.declared.fault.ItemFault.TheVariants as fault

-- whether the sign - stands at the start
abbrev pub has_sign : List ℕ → Bool
has_sign [] = false
has_sign (c ∷ cs) = is_minus c

-- what stands behind the sign, where there is one
abbrev pub digits_of : List ℕ → List ℕ
digits_of [] = []
digits_of (c ∷ cs) = if is_minus c then cs else (c ∷ cs)

-- one digit or more, and nothing else
abbrev pub are_digits : List ℕ → Bool
are_digits digits = nat_lt 0 (length digits) && list_all is_digit digits

-- the number that decimal digits write behind those of another number: each digit is worth ten times the next
abbrev pub number_with : ℕ → List ℕ → ℕ
number_with n [] = n
number_with n (c ∷ cs) = number_with (n * 10 + (c - 48)) cs

-- the number that decimal digits write
abbrev pub number_of : List ℕ → ℕ
number_of = number_with 0

-- a number, or none where it is no word
abbrev pub within_word : ℕ → Option ℕ
within_word n = if nat_lt n (2 ^ 64) then Some n else None

-- the number that the text is, if it is decimal digits and the number is a word
abbrev pub natural_of : List ℕ → Option ℕ
natural_of digits = if are_digits digits then within_word (number_of digits) else None

-- the largest distance from 0, below it or above it
abbrev pub most_of : Bool → ℕ
most_of true = 2 ^ 63
most_of false = 2 ^ 63 - 1

-- the word at a distance from 0, below 0 where the truth says so, if there is one
abbrev pub word_or_range : Bool → ℕ → Result ℕ ItemFault
word_or_range negative n = if nat_le n (most_of negative) then Ok (with_sign negative n) else Err fault.Range

-- the word of an item, or why it has none
abbrev pub value_of : List ℕ → Result ℕ ItemFault
value_of item =
    if are_digits (digits_of item) then word_or_range (has_sign item) (number_of (digits_of item)) else Err fault.Bad
