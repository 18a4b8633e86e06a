-- Which number a text of digits is.
use Rattle.std.proofs.Common.{◌≡◌, ℕ, ◌^◌, ◌<◌, ◌≤◌, List, ◌++◌, length, codes, decimal, sym, ap, ◌∙◌, arith, length-append}
use Rattle.std.proofs.lemmas.Fmt.{decimal_digit, decimal_injective}
use Rattle.c_tokens.proofs.Runs.{same_prefix}

-- 0 or 1 alone is one number
pub same_bare : (n m : ℕ) (text : List ℕ) → text ≡ decimal n → text ≡ decimal m → n ≤ 1 → m ≤ 1 → n ≡ m
same_bare n m text e f small_n small_m = decimal_injective n m (omega arith) (omega arith) (sym e ∙ f)

-- a constant is one number
pub same_const : (n m : ℕ) (text : List ℕ) → text ≡ decimal n ++ codes "ULL" → text ≡ decimal m ++ codes "ULL" → n < 2 ^ 64 → m < 2 ^ 64 → n ≡ m
same_const n m text e f small_n small_m =
    let whole : decimal n ++ codes "ULL" ≡ decimal m ++ codes "ULL" = sym e ∙ f in
    let lengths = ap length whole in
    let len_n = length-append (decimal n) (codes "ULL") in
    let len_m = length-append (decimal m) (codes "ULL") in
    let same = same_prefix (decimal n) (codes "ULL") (decimal m) (codes "ULL") whole (omega arith) in
    decimal_injective n m small_n small_m same.0

-- 0 or 1 alone is no constant, which has more characters
pub bare_no_const : (n m : ℕ) (text : List ℕ) → text ≡ decimal n → n ≤ 1 → text ≡ decimal m ++ codes "ULL" → ⊥
bare_no_const n m text e small f =
    let short = ap length (e ∙ decimal_digit n (omega arith)) in
    let long = ap length f ∙ length-append (decimal m) (codes "ULL") in
    omega arith
