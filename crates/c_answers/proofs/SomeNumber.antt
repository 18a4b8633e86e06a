-- A text is 0 or 1 alone, or a constant, or neither.
use Rattle.std.proofs.Common.{◌≡◌, ◌⊎◌, ℕ, ◌-◌, ◌^◌, ◌<◌, ◌≤◌, List, ◌++◌, length, take, codes, decimal, Bool, true, false, ◌&&◌, nat_lt, sym, ap, subst, ◌∙◌, arith, inl, inr, true≢false, length-append}
use Rattle.std.specs.Str.{bytes_eq}
use Rattle.std.specs.Str.Parse.{digits_value}
use Rattle.std.proofs.Math.Seq.{take-append_seam}
use Rattle.std.proofs.lemmas.Bool.Decides.{nat_tests}
use Rattle.std.proofs.lemmas.Fmt.{decimal_is_IsNumeral}
use Rattle.std.proofs.lemmas.Slice.Eq.{bytes_eq-Decides}
use Rattle.strm_num.proofs.Truths.{both_true, true_both}
use Rattle.c_answers.proofs.Beginnings.{by_test}

-- ---- 0 and 1

abbrev pub IsBareText : List ℕ → ℕ → Type 0
IsBareText text n = (text ≡ decimal n) × (n ≤ 1)

abbrev pub IsConstText : List ℕ → ℕ → Type 0
IsConstText text n = (text ≡ decimal n ++ codes "ULL") × (n < 2 ^ 64)

abbrev pub NumberOf : (List ℕ → ℕ → Type 0) → List ℕ → Type 0
NumberOf is text = ((n : ℕ) × is text n) ⊎ ((n : ℕ) → is text n → ⊥)

pub bare_or_not : (text : List ℕ) → NumberOf IsBareText text
bare_or_not text = by_test {A = NumberOf IsBareText text} (bytes_eq text (decimal 0))
    (λ zero_is. inl (0, ((bytes_eq-Decides text (decimal 0)).0 zero_is, omega arith)))
    (λ no_zero. by_test {A = NumberOf IsBareText text} (bytes_eq text (decimal 1))
    (λ one_is. inl (1, ((bytes_eq-Decides text (decimal 1)).0 one_is, omega arith)))
    (λ no_one. inr (neither no_zero no_one)))
  where
    none : (n : ℕ) → bytes_eq text (decimal n) ≡ false → text ≡ decimal n → ⊥
    none n fails e = true≢false (sym ((bytes_eq-Decides text (decimal n)).1 e) ∙ fails)

    neither : bytes_eq text (decimal 0) ≡ false → bytes_eq text (decimal 1) ≡ false → (n : ℕ) → IsBareText text n → ⊥
    neither no_zero no_one n is = by_test {A = ⊥} (nat_lt n 1)
        (λ small. none 0 no_zero (is.0 ∙ ap decimal (is_zero n small)))
        (λ large. none 1 no_one (is.0 ∙ ap decimal (is_one n is.1 large)))
      where
        is_zero : (n : ℕ) → nat_lt n 1 ≡ true → n ≡ 0
        is_zero n e = grind (arith, nat_tests)

        is_one : (n : ℕ) → n ≤ 1 → nat_lt n 1 ≡ false → n ≡ 1
        is_one n small e = grind (arith, nat_tests)

-- ---- constants

-- the number that stands before the three letters
abbrev number_in : List ℕ → ℕ
number_in text = digits_value 10 (take (length text - 3) text)

abbrev is_const : List ℕ → Bool
is_const text = nat_lt (number_in text) (2 ^ 64) && bytes_eq text (decimal (number_in text) ++ codes "ULL")

const_only : (text : List ℕ) → is_const text ≡ true → IsConstText text (number_in text)
const_only text e =
    let parts = both_true (nat_lt (number_in text) (2 ^ 64)) (bytes_eq text (decimal (number_in text) ++ codes "ULL")) e in
    ((bytes_eq-Decides text (decimal (number_in text) ++ codes "ULL")).0 parts.1, small (number_in text) parts.0)
  where
    small : (n : ℕ) → nat_lt n (2 ^ 64) ≡ true → n < 2 ^ 64
    small n e = grind (arith, nat_tests)

number_in_const : (n : ℕ) → n < 2 ^ 64 → number_in (decimal n ++ codes "ULL") ≡ n
number_in_const n small =
    let lengths = length-append (decimal n) (codes "ULL") in
    let digits : length (decimal n ++ codes "ULL") - 3 ≡ length (decimal n) = omega arith in
    ap (digits_value 10) (ap (λ (k : ℕ). take k (decimal n ++ codes "ULL")) digits ∙ take-append_seam (decimal n) (codes "ULL"))
    ∙ (decimal_is_IsNumeral n small).1

const_is_const : (text : List ℕ) (n : ℕ) → IsConstText text n → is_const text ≡ true
const_is_const text n is =
    let value : number_in text ≡ n = ap number_in is.0 ∙ number_in_const n is.1 in
    true_both (nat_lt (number_in text) (2 ^ 64)) (bytes_eq text (decimal (number_in text) ++ codes "ULL")) (passes (number_in text) value)
    ((bytes_eq-Decides text (decimal (number_in text) ++ codes "ULL")).1 (is.0 ∙ ap (λ (k : ℕ). decimal k ++ codes "ULL") (sym value)))
  where
    passes : (m : ℕ) → m ≡ n → nat_lt m (2 ^ 64) ≡ true
    passes m e = let small : m < 2 ^ 64 = subst (λ (k : ℕ). k < 2 ^ 64) (sym e) is.1 in grind (arith, nat_tests)

pub const_or_not : (text : List ℕ) → NumberOf IsConstText text
const_or_not text = by_test {A = NumberOf IsConstText text} (is_const text)
    (λ holds. inl (number_in text, const_only text holds))
    (λ fails. inr (λ n is. true≢false (sym (const_is_const text n is) ∙ fails)))
