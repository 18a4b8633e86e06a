-- What is promised of the definitions. Each statement has one name, which its law and those who stand on it cite.
use Rattle.std.specs.Prelude.{◌≡◌, ◌≢◌, ℕ, ◌/◌, ◌%◌, ◌^◌, nat_lt, bit_xor}
use Rattle.strm_num.specs.Words.{IsWord, quotient_of, remainder_of, is_less}
use Rattle.strm_num.specs.Magnitudes.{is_negative, magnitude_of, with_sign, xor}

-- Signed division is unsigned division of magnitudes, with the sign set afterwards: a quotient is
-- negative where one side alone is, and a remainder where the dividend is. Quotients and
-- remainders of all numbers are words; the magnitude of a word is one, and 0 for the word 0 alone.
--
-- At the divisor 0, for which neither is asked for, a quotient of magnitudes is 0 and a remainder
-- is the dividend, as of natural numbers.
abbrev pub QuotientsAreThoseOfMagnitudes : Type 0
QuotientsAreThoseOfMagnitudes =
    (x y : ℕ) → IsWord x → IsWord y
    → quotient_of x y ≡ with_sign (xor (is_negative x) (is_negative y))
    (magnitude_of x / magnitude_of y)

abbrev pub RemaindersAreThoseOfMagnitudes : Type 0
RemaindersAreThoseOfMagnitudes =
    (x y : ℕ) → IsWord x → IsWord y
    → remainder_of x y ≡ with_sign (is_negative x) (magnitude_of x % magnitude_of y)

abbrev pub QuotientsAreWords : Type 0
QuotientsAreWords =
    (x y : ℕ) → IsWord (quotient_of x y)

abbrev pub RemaindersAreWords : Type 0
RemaindersAreWords =
    (x y : ℕ) → IsWord (remainder_of x y)

abbrev pub MagnitudesAreWords : Type 0
MagnitudesAreWords =
    (x : ℕ) → IsWord x → IsWord (magnitude_of x)

abbrev pub MagnitudesAreZeroAtZeroAlone : Type 0
MagnitudesAreZeroAtZeroAlone =
    (x : ℕ) → IsWord x → x ≢ 0 → magnitude_of x ≢ 0

-- With the sign bits flipped, the order of the signed values is that of the words.
abbrev pub SignedOrderFlipsSignBits : Type 0
SignedOrderFlipsSignBits =
    (x y : ℕ) → IsWord x → IsWord y
    → is_less x y ≡ nat_lt (bit_xor x (2 ^ 63)) (bit_xor y (2 ^ 63))
