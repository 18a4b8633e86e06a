-- The temporaries of a choice are those of its parts, where it is made by a test.
use Rattle.std.proofs.Common.{◌≡◌, ℕ, max, Option, Some, None, Bool, true, false, ◌||◌, refl}
use Rattle.std.specs.Prelude.{is_some}
use Rattle.list_denotation.specs.Terms.{Term, If}
use Rattle.expr_constants.specs.Constants.{constant_of}
use Rattle.expr_lower.specs.Costs.{temps_of}
use Rattle.turn_blocks.specs.StateBlocks.{is_whole}
use Rattle.turn_blocks.specs.WordUses.{avoids}

second_fails : (a b : Bool) → (a || b) ≡ false → b ≡ false
second_fails true b h = absurd cc
second_fails false b h = h

is_none : (c : Option ℕ) → is_some c ≡ false → c ≡ None
is_none None h = refl
is_none (Some x) h = absurd cc

test_temps : (c a b : Term) → constant_of c ≡ None → temps_of (If c a b) ≡ max (temps_of c) (max (temps_of a) (temps_of b))
test_temps c a b h = rw h refl

pub choice_temps : (k : ℕ) (c a b : Term) → is_whole k c a b ≡ false → temps_of (If c a b) ≡ max (temps_of c) (max (temps_of a) (temps_of b))
choice_temps k c a b h = test_temps c a b (is_none (constant_of c) (second_fails (avoids k (If c a b)) (is_some (constant_of c)) h))
