-- Words in the order of their signed values: steps of one towards an end, and counts.
use Rattle.std.proofs.Common.{◌≡◌, ◌≢◌, ℕ, ◌^◌, ◌<◌, arith, true, false}
use Rattle.std.proofs.lemmas.Grind.{common_steps}
use Rattle.std.proofs.lemmas.Int.{ints}
use Rattle.strm_num.specs.Words.{signed, sum_of, is_less, truth_of}
use Rattle.list_denotation.specs.Values.{choice}
use Rattle.list_denotation.specs.Denotation.{count_of}

pub not_less_itself : (x : ℕ) → is_less x x ≡ false
not_less_itself x = grind (arith, ints, common_steps)

pub less_apart : (x y : ℕ) → is_less x y ≡ true → x ≢ y
less_apart x y h q = grind (arith, ints, common_steps)

pub not_both_less : (x y : ℕ) → is_less x y ≡ true → is_less y x ≡ false
not_both_less x y h = grind (arith, ints, common_steps)

-- a word that is less than another is at most that when it goes on by one
pub next_not_above : (x y : ℕ) → x < 2 ^ 64 → y < 2 ^ 64 → is_less x y ≡ true → is_less y (sum_of x 1) ≡ false
next_not_above x y b c h = grind (arith, ints, common_steps)

pub neither_less : (x y : ℕ) → x < 2 ^ 64 → y < 2 ^ 64 → is_less x y ≡ false → is_less y x ≡ false → x ≡ y
neither_less x y b c h k = grind (arith, ints, common_steps)

-- a count as a number: 0 where it is below 0
pub count_is : (k : ℕ) → choice (truth_of (is_less k 0)) k 0 ≡ count_of (signed k)
count_is k = grind (arith, ints, common_steps)

pub count_small : (k : ℕ) → count_of (signed k) < 2 ^ 64
count_small k = grind (arith, ints, common_steps)
