-- The signed operations on words, by signs and magnitudes.
use Rattle.std.proofs.Common.{◌≡◌, ◌≢◌, ℕ, ◌/◌, ◌%◌, ◌^◌, ◌<◌, arith}
use Rattle.std.specs.Prelude.{nat_lt, bit_xor}
use Rattle.std.proofs.lemmas.Grind.{common_steps}
use Rattle.strm_num.specs.Words.{quotient_of, remainder_of, is_less}
use Rattle.strm_num.specs.Magnitudes.{is_negative, magnitude_of, with_sign, xor}

pub magnitude_word : (x : ℕ) → x < 2 ^ 64 → magnitude_of x < 2 ^ 64
magnitude_word x h = grind arith

pub magnitude_not_zero : (x : ℕ) → x < 2 ^ 64 → x ≢ 0 → magnitude_of x ≢ 0
magnitude_not_zero x h n = grind arith

-- at the divisor 0 both sides are 0, since natural numbers divided by 0 give 0
pub quotient_is : (x y : ℕ) → x < 2 ^ 64 → y < 2 ^ 64 → quotient_of x y ≡ with_sign (xor (is_negative x) (is_negative y)) (magnitude_of x / magnitude_of y)
quotient_is x y h k = grind arith

pub quotient_word : (x y : ℕ) → quotient_of x y < 2 ^ 64
quotient_word x y = grind arith

-- at the divisor 0 both sides are x, since natural numbers modulo 0 are themselves
pub remainder_is : (x y : ℕ) → x < 2 ^ 64 → y < 2 ^ 64 → remainder_of x y ≡ with_sign (is_negative x) (magnitude_of x % magnitude_of y)
remainder_is x y h k = grind arith

pub remainder_word : (x y : ℕ) → remainder_of x y < 2 ^ 64
remainder_word x y = grind arith

-- with the sign bit flipped, the order of the signed values is that of the words
pub less_is : (x y : ℕ) → x < 2 ^ 64 → y < 2 ^ 64 → is_less x y ≡ nat_lt (bit_xor x (2 ^ 63)) (bit_xor y (2 ^ 63))
less_is x y h k = grind (arith, common_steps)
