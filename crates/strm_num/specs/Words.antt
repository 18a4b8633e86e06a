-- The arithmetic of words, which are the numbers below 2 ^ 64.
use Rattle.std.specs.Prelude.{ℕ, ◌+◌, ◌-◌, ◌*◌, ◌%◌, ◌^◌, ◌<◌, Bool, true, false, nat_lt, if◌then◌else◌, ℤ, pos, negsuc, int_div, int_rem, int_lt}

abbrev pub IsWord : ℕ → Type 0
IsWord w = w < 2 ^ 64

-- the signed value of a word: itself below 2 ^ 63, else itself minus 2 ^ 64
abbrev pub signed : ℕ → ℤ
signed w = if nat_lt w (2 ^ 63) then pos w else negsuc (2 ^ 64 - 1 - w)

-- the word that a whole number is modulo 2 ^ 64
abbrev pub word_of : ℤ → ℕ
word_of (pos n) = n % 2 ^ 64
word_of (negsuc n) = 2 ^ 64 - 1 - n % 2 ^ 64

abbrev pub sum_of : ℕ → ℕ → ℕ
sum_of x y = (x + y) % 2 ^ 64

abbrev pub difference_of : ℕ → ℕ → ℕ
difference_of x y = (x + (2 ^ 64 - y)) % 2 ^ 64

abbrev pub product_of : ℕ → ℕ → ℕ
product_of x y = x * y % 2 ^ 64

abbrev pub negation_of : ℕ → ℕ
negation_of x = (2 ^ 64 - x) % 2 ^ 64

-- the quotient of the signed values, towards zero. It is asked for only where the divisor isn't 0
abbrev pub quotient_of : ℕ → ℕ → ℕ
quotient_of x y = word_of (int_div (signed x) (signed y))

-- the remainder of the signed values, with the sign of the first. It is asked for only where the divisor isn't 0
abbrev pub remainder_of : ℕ → ℕ → ℕ
remainder_of x y = word_of (int_rem (signed x) (signed y))

-- the order of the signed values
abbrev pub is_less : ℕ → ℕ → Bool
is_less x y = int_lt (signed x) (signed y)

-- a truth as a word
abbrev pub truth_of : Bool → ℕ
truth_of true = 1
truth_of false = 0
