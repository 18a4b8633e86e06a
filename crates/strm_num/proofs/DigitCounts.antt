-- How many digits the magnitude of a word has.
use Rattle.std.proofs.Common.{ℕ, ◌^◌, ◌<◌, ◌≤◌, length, decimal, arith}
use Rattle.std.proofs.lemmas.Fmt.{length-decimal-le}
use Rattle.strm_num.specs.Magnitudes.{magnitude_of}

module _ (w : ℕ) (word : w < 2 ^ 64) where
  magnitude_bound : magnitude_of w ≤ 2 ^ 63
  magnitude_bound = grind arith

  pub most_digits : length (decimal (magnitude_of w)) ≤ 19
  most_digits =
      length-decimal-le 19 (magnitude_of w) (omega arith) (omega (arith, magnitude_bound)) (omega (arith, magnitude_bound))
