-- Which number digits are.
use Rattle.std.proofs.Common.{◌≡◌, ◌≢◌, ℕ, zero, suc, ◌+◌, ◌-◌, ◌*◌, ◌^◌, ◌<◌, ◌≤◌, List, [], ◌∷◌, length, get_or, drop, true, false, ◌==◌, decimal, refl, sym, ap, ◌∙◌, arith, rules, true≢false}
use Rattle.std.proofs.lemmas.Bool.Decides.{nat_tests}
use Rattle.std.proofs.lemmas.List.{drop_more, drop_all}
use Rattle.std.proofs.lemmas.Fmt.{digits_value-decimal, decimal-digits_value, decimal_nonempty, decimal_digit, first_decimal, decimal_is_IsNumeral}
use Rattle.std.proofs.lemmas.Str.Parse.{IsNumeralModel, numerals_by_fold, digit_at}
use Rattle.c_tokens.specs.Characters.{is_digit}
use Rattle.c_tokens.specs.Pieces.{IsRun}
use Rattle.c_lexer.specs.Numbers.{begins_no_number}

-- the value of digits that follow those of a value
abbrev pub value_with : ℕ → List ℕ → ℕ
value_with v [] = v
value_with v (c ∷ digits) = value_with (v * 10 + (c - 48)) digits

numerals : IsNumeralModel (λ ds. IsRun is_digit ds []) (value_with 0)
numerals = numerals_by_fold _ (search rules) value_with (search rules)

-- more digits make no number less
pub value_with-grows : (v : ℕ) (digits : List ℕ) → v ≤ value_with v digits
value_with-grows v [] = omega arith
value_with-grows v (c ∷ digits) = let more = value_with-grows (v * 10 + (c - 48)) digits in omega arith

-- characters that are digits each are a run
run_of : (digits : List ℕ) → ((k : ℕ) → k < length digits → is_digit (get_or digits k 0) ≡ true) → IsRun is_digit digits []
run_of [] all = tt
run_of (c ∷ digits) all = (all 0 (omega arith), run_of digits (λ k h. all (suc k) (omega arith)))

-- ---- what no decimal is

-- nothing is none, and neither is what has a leading zero
pub no_leading_zero : (n : ℕ) (digits : List ℕ) → n < 2 ^ 64 → begins_no_number digits ≡ true → decimal n ≢ digits
no_leading_zero n [] small e same = let some = decimal_nonempty n small in let lengths = ap length same in omega arith
no_leading_zero n (c ∷ []) small e same = true≢false (sym e)
no_leading_zero zero (c ∷ d ∷ digits) small e same =
    let lengths = ap length (sym (decimal_digit 0 (omega arith)) ∙ same) in
    omega arith
no_leading_zero (suc n) (c ∷ d ∷ digits) small e same =
    let first = first_decimal (suc n) (omega arith) small in
    let equal = ap (λ (xs : List ℕ). get_or xs 0 0) same in
    let zero_first = is_zero c e in
    omega arith
  where
    is_zero : (x : ℕ) → (x == 48) ≡ true → x ≡ 48
    is_zero x e = grind (arith, nat_tests)

leads : (digits : List ℕ) → begins_no_number digits ≡ false → (0 < length digits) × (get_or digits 0 0 ≡ 48 → length digits ≡ 1)
leads [] e = absurd (true≢false e)
leads (c ∷ []) e = (omega arith, λ z. refl)
leads (c ∷ d ∷ digits) e = (omega arith, λ z. absurd (true≢false (sym (ap (λ (x : ℕ). x == 48) z) ∙ e)))

-- ---- what one is

-- digits without a leading zero are the decimal of their value
pub is_decimal_of_value : (digits : List ℕ) (v : ℕ) → begins_no_number digits ≡ false → ((k : ℕ) → k < length digits → is_digit (get_or digits k 0) ≡ true) → v ≡ value_with 0 digits → v < 2 ^ 64 → decimal v ≡ digits
is_decimal_of_value digits v begins all is small =
    let lead = leads digits begins in
    ap decimal is ∙ decimal-digits_value numerals digits (run_of digits all) lead.0 lead.1 (let same = is in omega arith)

-- ---- other characters, and values that are too large

digit_between : (c : ℕ) → 48 ≤ c → c < 58 → is_digit c ≡ true
digit_between c low high = grind (arith, nat_tests)

pub no_other_character : (n : ℕ) (digits : List ℕ) (k : ℕ) → n < 2 ^ 64 → k < length digits → is_digit (get_or digits k 0) ≡ false → decimal n ≢ digits
no_other_character n digits k small within other e =
    let lengths = ap length e in
    let between = digit_at (decimal n) k (decimal_is_IsNumeral n small).0.1 (omega arith) in
    let same = ap (λ (xs : List ℕ). get_or xs k 0) e in
    true≢false (sym (digit_between (get_or digits k 0) (omega (arith, between)) (omega (arith, between))) ∙ other)

pub no_large_number : (n : ℕ) (digits : List ℕ) → n < 2 ^ 64 → 2 ^ 64 ≤ value_with 0 digits → decimal n ≢ digits
no_large_number n digits small large e =
    let value = sym (digits_value-decimal numerals n small) ∙ ap (value_with 0) e in
    omega arith

-- a value that goes on to digits that are all of them
pub large_value : (digits : List ℕ) (v i : ℕ) → i < length digits → value_with v (drop i digits) ≡ value_with 0 digits → 2 ^ 64 ≤ v * 10 + (get_or digits i 0 - 48) → 2 ^ 64 ≤ value_with 0 digits
large_value digits v i within is large =
    let step : value_with (v * 10 + (get_or digits i 0 - 48)) (drop (i + 1) digits) ≡ value_with 0 digits = sym (ap (value_with v) (drop_more digits i 0 within)) ∙ is in
    let more = value_with-grows (v * 10 + (get_or digits i 0 - 48)) (drop (i + 1) digits) in
    omega arith

pub whole_value : (digits : List ℕ) (v i : ℕ) → length digits ≤ i → value_with v (drop i digits) ≡ value_with 0 digits → v ≡ value_with 0 digits
whole_value digits v i end is = sym (ap (value_with v) (drop_all i digits end)) ∙ is
