-- Whether a signed remainder is 0: the sign of the dividend and that of the divisor don't matter.
use Rattle.std.proofs.Common.{◌≡◌, ◌≢◌, ℕ, zero, suc, ◌+◌, ◌*◌, ◌/◌, ◌%◌, ◌<◌, ◌^◌, Bool, true, false, List, [], refl, sym, ap, ◌∙◌, arith}
use Rattle.std.specs.Prelude.{IsTrue, if◌then◌else◌, not, nat_lt, ◌==◌, slice_index, slice_set}
use Rattle.std.proofs.Math.Dec.{eqb-suc-zero}
use Rattle.std.proofs.lemmas.Bool.{eqb-true}
use Rattle.std.proofs.Math.Nat.{mod-lt, mul-mod_right, mul-add-mod_self_left, div-add-mod}
use Rattle.std.proofs.lemmas.List.{set-get_or}
use Rattle.strm_num.specs.Words.{IsWord, negation_of, remainder_of}
use Rattle.strm_num.specs.Magnitudes.{is_negative, magnitude_of, with_sign}
use Rattle.list_denotation.specs.declared.expr.BinOp.{BinOp}
use Rattle.list_denotation.specs.declared.expr.BinOp.TheVariants as sign
use Rattle.list_denotation.specs.declared.input.Input.{Input}
use Rattle.list_denotation.specs.Values.{Is}
use Rattle.loop_ir.specs.declared.syntax.WOp.TheVariants as op
use Rattle.loop_ir.specs.Statements.{Operand, Const, Var, Len, Int, Bin, Nil}
use Rattle.loop_ir.specs.Meaning.{Runs, operand_value, test_value}
use Rattle.expr_phrases.specs.Laws.{Laws}
use Rattle.expr_phrases.specs.Phrases.{Remainder, set, minus, is_natural, divides_modulus, is_variable, magnitude_block, multiple_test}
use Rattle.expr_phrases.specs.Results.{comparison_truth, is_equality, Assigns}
use Rattle.expr_phrases.proofs.Comparisons.{comparison_test_is}
use Rattle.expr_phrases.proofs.Divisions.{magnitude_same, magnitude_minus, quotient_value, natural_tested, set_assigns, first_assigns, second_assigns}
use Rattle.expr_phrases.proofs.Opposites.{minus_value}

-- ---- numbers

-- two numbers that are 0 together
zero_together : (n k : ℕ) → (n ≡ 0 → k ≡ 0) → (k ≡ 0 → n ≡ 0) → (n == 0) ≡ (k == 0)
zero_together zero zero f g = refl
zero_together zero (suc k) f g = let e : suc k ≡ 0 = f refl in absurd cc
zero_together (suc n) zero f g = let e : suc n ≡ 0 = g refl in absurd cc
zero_together (suc n) (suc k) f g = eqb-suc-zero n ∙ sym (eqb-suc-zero k)

-- a word with a sign is 0 where the word is
signed_zero : (b : Bool) (m : ℕ) → m < 2 ^ 64 → (with_sign b m == 0) ≡ (m == 0)
signed_zero true m h = zero_together (negation_of m) m (λ e. omega (arith, e, h)) (λ e. ap negation_of e)
signed_zero false m h = refl

-- of two numbers whose sum is a multiple, both are multiples or none is
other_multiple : (a b m q : ℕ) → a + b ≡ m * q → a % m ≡ 0 → b % m ≡ 0
other_multiple a b m q total h =
    let whole : m * (a / m) ≡ a = omega (arith, div-add-mod a m, h) in
    sym (mul-add-mod_self_left m (a / m) b) ∙ ap (λ n. (n + b) % m) whole ∙ ap (λ n. n % m) total ∙ mul-mod_right m q

-- what divides 2 ^ 64 divides a word and its negation together
negation_multiple : (x m : ℕ) → 0 < x → x < 2 ^ 64 → 0 < m → m < 2 ^ 64 → IsTrue (divides_modulus m) → (negation_of x % m == 0) ≡ (x % m == 0)
negation_multiple x m x_not_zero x_word m_not_zero m_word divides =
    zero_together (negation_of x % m) (x % m)
    (λ h. other_multiple (negation_of x) x m (negation_of m / m + 1) (total (negation_is x x_not_zero x_word)) h)
    (λ h. other_multiple x (negation_of x) m (negation_of m / m + 1) (total_again (negation_is x x_not_zero x_word)) h)
  where
    negation_is : (x : ℕ) → 0 < x → x < 2 ^ 64 → negation_of x + x ≡ 2 ^ 64
    negation_is x h k = omega (arith, h, k)

    is_zero : (n : ℕ) → IsTrue (n == 0) → n ≡ 0
    is_zero zero h = refl
    is_zero (suc n) h = let e : false ≡ true = sym (eqb-suc-zero n) ∙ h in absurd cc

    modulus : m * (negation_of m / m + 1) ≡ 2 ^ 64
    modulus =
        let none : negation_of m % m ≡ 0 = is_zero (negation_of m % m) divides in
        let quotient : m * (negation_of m / m) + negation_of m % m ≡ negation_of m = div-add-mod (negation_of m) m in
        omega (arith, quotient, none, negation_is m m_not_zero m_word)

    total : negation_of x + x ≡ 2 ^ 64 → negation_of x + x ≡ m * (negation_of m / m + 1)
    total e = e ∙ sym modulus

    total_again : negation_of x + x ≡ 2 ^ 64 → x + negation_of x ≡ m * (negation_of m / m + 1)
    total_again e = let turned : x + negation_of x ≡ negation_of x + x = omega arith in turned ∙ e ∙ sym modulus

-- equality with 0 asks no more of a number than whether it is 0
zero_truth : (o : BinOp) (n k : ℕ) → IsTrue (is_equality o) → (n == 0) ≡ (k == 0) → comparison_truth o n 0 ≡ comparison_truth o k 0
zero_truth sign.Eq n k h same = same
zero_truth sign.Ne n k h same = ap not same
zero_truth _ n k h same = absurd cc

-- ---- the magnitude

same_variable : (inputs : List Input) (w : Operand) (v x : ℕ) (env : List ℕ) → IsTrue (is_variable v w) → operand_value inputs w env ≡ Is x → Assigns inputs Nil v (Is x) env
same_variable inputs (Var u) v x env h is = λ left.
    let at : u ≡ v = eqb-true u v h in
    let there : slice_index env u ≡ x = cc in
    sym (ap (λ e. Runs [] e left) (ap (slice_set env v) (sym there ∙ ap (slice_index env) at) ∙ set-get_or env v 0))
same_variable inputs (Const c) v x env h is = absurd cc
same_variable inputs (Len a) v x env h is = absurd cc
same_variable inputs (Int k) v x env h is = absurd cc
same_variable inputs (Bin o a b) v x env h is = absurd cc

kept_assigns : (inputs : List Input) (w : Operand) (v x : ℕ) (env : List ℕ) (same : Bool) → is_variable v w ≡ same → operand_value inputs w env ≡ Is x → Assigns inputs (if same then Nil else set v w) v (Is x) env
kept_assigns inputs w v x env true same is = same_variable inputs w v x env same is
kept_assigns inputs w v x env false same is = set_assigns inputs v w x env is

pub magnitude_assigns : (inputs : List Input) (w : Operand) (x v : ℕ) (env : List ℕ) → operand_value inputs w env ≡ Is x → Assigns inputs (magnitude_block w v) v (Is (magnitude_of x)) env
magnitude_assigns inputs w x v env is = by_sign (nat_lt x (2 ^ 63)) refl
  where
    by_sign : (b : Bool) → nat_lt x (2 ^ 63) ≡ b → Assigns inputs (magnitude_block w v) v (Is (magnitude_of x)) env
    by_sign true e =
        first_assigns inputs (is_natural w) (if is_variable v w then Nil else set v w) (set v (minus w)) v (magnitude_of x) env (natural_tested inputs w x env true is e)
        (kept_assigns inputs w v (magnitude_of x) env (is_variable v w) refl (is ∙ ap Is (sym (magnitude_same x (ap not e)))))
    by_sign false e =
        second_assigns inputs (is_natural w) (if is_variable v w then Nil else set v w) (set v (minus w)) v (magnitude_of x) env (natural_tested inputs w x env false is e)
        (set_assigns inputs v (minus w) (magnitude_of x) env (minus_value inputs w x env is ∙ ap Is (sym (magnitude_minus x (ap not e)))))

-- ---- the tests

not_natural : (x : ℕ) → nat_lt x (2 ^ 63) ≡ false → 0 < x
not_natural zero e = absurd cc
not_natural (suc x) e = omega arith

module _ (laws : Laws) (inputs : List Input) (o : BinOp) (w : Operand) (x c : ℕ) (env : List ℕ) (equality : IsTrue (is_equality o)) (x_word : IsWord x) (c_word : IsWord c) (divides : c ≢ 0) where
  -- the test of a word y whose remainder is 0 where that of the magnitudes is
  tested : (y : ℕ) → (y % magnitude_of c == 0) ≡ (magnitude_of x % magnitude_of c == 0) → operand_value inputs w env ≡ Is y → test_value inputs (multiple_test o w (magnitude_of c)) env ≡ Is (comparison_truth o (remainder_of x c) 0)
  tested y same is =
      let positive : magnitude_of c ≢ 0 = laws.magnitude_not_zero c c_word divides in
      let below : magnitude_of c < 2 ^ 64 = laws.magnitude_word c c_word in
      let remainder_word : y % magnitude_of c < 2 ^ 64 = remainder_below y (magnitude_of c) positive below in
      let magnitude_word : magnitude_of x % magnitude_of c < 2 ^ 64 = remainder_below (magnitude_of x) (magnitude_of c) positive below in
      comparison_test_is laws inputs o (Bin op.Rem w (Const (magnitude_of c))) (Const 0) (y % magnitude_of c) 0 env remainder_word (omega arith)
      (quotient_value inputs Remainder w (Const (magnitude_of c)) y (magnitude_of c) env positive is refl) refl
      ∙ ap Is (zero_truth o (y % magnitude_of c) (remainder_of x c) equality
      (same ∙ sym (ap (λ n. n == 0) (laws.remainder x c x_word c_word) ∙ signed_zero (is_negative x) (magnitude_of x % magnitude_of c) magnitude_word)))
    where
      remainder_below : (y m : ℕ) → m ≢ 0 → m < 2 ^ 64 → y % m < 2 ^ 64
      remainder_below y m positive below = let lt : y % m < m = mod-lt y (omega (arith, positive)) in omega (arith, lt, below)

  pub of_magnitude : operand_value inputs w env ≡ Is (magnitude_of x) → test_value inputs (multiple_test o w (magnitude_of c)) env ≡ Is (comparison_truth o (remainder_of x c) 0)
  of_magnitude is = tested (magnitude_of x) refl is

  pub of_word : IsTrue (divides_modulus (magnitude_of c)) → operand_value inputs w env ≡ Is x → test_value inputs (multiple_test o w (magnitude_of c)) env ≡ Is (comparison_truth o (remainder_of x c) 0)
  of_word modulus is = tested x (by_sign (nat_lt x (2 ^ 63)) refl) is
    where
      by_sign : (b : Bool) → nat_lt x (2 ^ 63) ≡ b → (x % magnitude_of c == 0) ≡ (magnitude_of x % magnitude_of c == 0)
      by_sign true e = ap (λ n. n % magnitude_of c == 0) (sym (magnitude_same x (ap not e)))
      by_sign false e =
          let positive : magnitude_of c ≢ 0 = laws.magnitude_not_zero c c_word divides in
          sym (ap (λ n. n % magnitude_of c == 0) (magnitude_minus x (ap not e))
          ∙ negation_multiple x (magnitude_of c) (not_natural x e) x_word (omega (arith, positive)) (laws.magnitude_word c c_word) modulus)
