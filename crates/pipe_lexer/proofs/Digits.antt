-- The value of decimal digits, and the limit of numbers.
use Rattle.std.proofs.Common.{◌≡◌, ℕ, ◌+◌, ◌-◌, ◌*◌, ◌^◌, ◌<◌, ◌≤◌, List, [], ◌∷◌, ◌++◌, length, get_or, take, refl, ap, ◌∙◌, arith, Some, None}
use Rattle.std.proofs.lemmas.List.{take_more}
use Rattle.std.proofs.lemmas.Bool.Decides.{nat_tests}
use Rattle.pipe_lexer.specs.Pieces.{value_with}
use Rattle.pipe_lexer.specs.Prefixes.{within_limit}

value_with-append : (v : ℕ) (xs : List ℕ) (c : ℕ) → value_with v (xs ++ c ∷ []) ≡ value_with v xs * 10 + (c - 48)
value_with-append v [] c = refl
value_with-append v (x ∷ xs) c = value_with-append (v * 10 + (x - 48)) xs c

-- the value of one digit more
pub value_with-take_more : (v : ℕ) (xs : List ℕ) (i d : ℕ) → i < length xs → value_with v (take (i + 1) xs) ≡ value_with v (take i xs) * 10 + (get_or xs i d - 48)
value_with-take_more v xs i d within = ap (value_with v) (take_more xs i d within) ∙ value_with-append v (take i xs) (get_or xs i d)

pub within_some : (n v : ℕ) → within_limit n ≡ Some v → (n ≡ v) × (v < 2 ^ 63)
within_some n v e = grind (arith, nat_tests)

pub within_none : (n : ℕ) → within_limit n ≡ None → 2 ^ 63 ≤ n
within_none n e = grind (arith, nat_tests)
