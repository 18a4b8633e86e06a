-- A name has one number.
use Rattle.std.proofs.Common.{◌≡◌, ℕ, ◌<◌, ◌^◌, arith}
use Rattle.std.specs.Prelude.{decimal}
use Rattle.std.proofs.lemmas.Fmt.{decimal_injective}

pub one_number : (k j : ℕ) → k < 2 ^ 32 → j < 2 ^ 32 → decimal k ≡ decimal j → k ≡ j
one_number k j h i e = decimal_injective k j (omega arith) (omega arith) e
