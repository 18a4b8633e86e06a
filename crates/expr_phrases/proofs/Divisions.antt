-- The phrases of division assign the signed quotient or remainder, and return 1 where the divisor is 0.
use Rattle.std.proofs.Common.{◌≡◌, ◌≢◌, ℕ, zero, suc, ◌/◌, ◌%◌, ◌^◌, Bool, true, false, List, [], Option, Some, None, refl, sym, ap, ◌∙◌}
use Rattle.std.specs.Prelude.{not, nat_lt, ◌==◌, slice_set}
use Rattle.std.proofs.Math.Dec.{eqb-suc-zero}
use Rattle.strm_num.specs.Words.{IsWord, negation_of}
use Rattle.strm_num.specs.Magnitudes.{is_negative, magnitude_of, with_sign}
use Rattle.list_denotation.specs.declared.input.Input.{Input}
use Rattle.list_denotation.specs.Values.{Trap, Stuck, Is, unless_zero}
use Rattle.loop_ir.specs.declared.syntax.Verdict.TheVariants as verdict
use Rattle.loop_ir.specs.Statements.{Operand, Const, Bin, Test, Less, Same, If, Ret, Block, Nil, Cons}
use Rattle.loop_ir.specs.Meaning.{Runs, after, then_do, on_value, on_test, operand_value, test_value, run}
use Rattle.expr_phrases.specs.Laws.{Laws}
use Rattle.expr_phrases.specs.Phrases.{Division, Quotient, Remainder, set, minus, division_operator, result_negative, with_minus, divided_magnitudes, by_dividend, by_divisor}
use Rattle.expr_phrases.specs.Results.{result_of, IsKnown, HasValue, Assigns}
use Rattle.expr_phrases.proofs.Opposites.{minus_value}

-- the division of magnitudes
abbrev pub unsigned_result : Division → ℕ → ℕ → ℕ
unsigned_result Quotient x y = x / y
unsigned_result Remainder x y = x % y

known_divisor : (y q : ℕ) → y ≢ 0 → unless_zero Stuck y q ≡ Is q
known_divisor zero q ne = absurd (ne refl)
known_divisor (suc y) q ne = refl

-- the word of a number that isn't negative is its magnitude, and else the word with a minus
pub magnitude_same : (x : ℕ) → is_negative x ≡ false → magnitude_of x ≡ x
magnitude_same x h = rw (h) refl

pub magnitude_minus : (x : ℕ) → is_negative x ≡ true → magnitude_of x ≡ negation_of x
magnitude_minus x h = rw (h) refl

module _ (inputs : List Input) where
  pub quotient_value : (d : Division) (wx wy : Operand) (mx my : ℕ) (env : List ℕ) → my ≢ 0 → operand_value inputs wx env ≡ Is mx → operand_value inputs wy env ≡ Is my → operand_value inputs (Bin (division_operator d) wx wy) env ≡ Is (unsigned_result d mx my)
  quotient_value Quotient wx wy mx my env ne hx hy = rw (hx, hy) (known_divisor my (mx / my) ne)
  quotient_value Remainder wx wy mx my env ne hx hy = rw (hx, hy) (known_divisor my (mx % my) ne)

  sign_value : (b : Bool) (w : Operand) (x : ℕ) (env : List ℕ) → operand_value inputs w env ≡ Is x → operand_value inputs (with_minus b w) env ≡ Is (with_sign b x)
  sign_value true w x env h = minus_value inputs w x env h
  sign_value false w x env h = h

  pub natural_tested : (w : Operand) (x : ℕ) (env : List ℕ) (b : Bool) → operand_value inputs w env ≡ Is x → nat_lt x (2 ^ 63) ≡ b → test_value inputs (Less w (Const (2 ^ 63))) env ≡ Is b
  natural_tested w x env b h e = rw (h) (ap Is e)

  zero_tested : (w : Operand) (x : ℕ) (env : List ℕ) (b : Bool) → operand_value inputs w env ≡ Is x → (x == 0) ≡ b → test_value inputs (Same w (Const 0)) env ≡ Is b
  zero_tested w x env b h e = rw (h) (ap Is e)

  -- ---- statements

  pub set_assigns : (v : ℕ) (w : Operand) (x : ℕ) (env : List ℕ) → operand_value inputs w env ≡ Is x → Assigns inputs (set v w) v (Is x) env
  set_assigns v w x env is = λ left. ap (λ g. then_do (on_value g (λ y. Runs [] (slice_set env v y) left)) (run inputs Nil)) is

  -- a choice does what the branch does that is chosen
  pub first_assigns : (c : Test) (a b : Block) (v x : ℕ) (env : List ℕ) → test_value inputs c env ≡ Is true → Assigns inputs a v (Is x) env → Assigns inputs (Cons (If c a b) Nil) v (Is x) env
  first_assigns c a b v x env is h = λ left.
      ap (λ g. then_do (on_test g (run inputs a env left) (run inputs b env left)) (run inputs Nil)) is
      ∙ ap (λ o. then_do o (run inputs Nil)) (h left)

  pub second_assigns : (c : Test) (a b : Block) (v x : ℕ) (env : List ℕ) → test_value inputs c env ≡ Is false → Assigns inputs b v (Is x) env → Assigns inputs (Cons (If c a b) Nil) v (Is x) env
  second_assigns c a b v x env is h = λ left.
      ap (λ g. then_do (on_test g (run inputs a env left) (run inputs b env left)) (run inputs Nil)) is
      ∙ ap (λ o. then_do o (run inputs Nil)) (h left)

module _ (laws : Laws) where
  pub result_word : (d : Division) (x y : ℕ) → IsWord (result_of d x y)
  result_word Quotient x y = laws.quotient_word x y
  result_word Remainder x y = laws.remainder_word x y

  result_is : (d : Division) (x y : ℕ) → IsWord x → IsWord y → result_of d x y ≡ with_sign (result_negative d (is_negative x) (is_negative y)) (unsigned_result d (magnitude_of x) (magnitude_of y))
  result_is Quotient x y wx wy = laws.quotient x y wx wy
  result_is Remainder x y wx wy = laws.remainder x y wx wy

  module _ (inputs : List Input) (d : Division) (x y : ℕ) (x_word : IsWord x) (y_word : IsWord y) (divides : y ≢ 0) (v : ℕ) (env : List ℕ) where
    magnitudes_value : (wx wy : Operand) (dividend divisor : Bool) → is_negative x ≡ dividend → is_negative y ≡ divisor → operand_value inputs wx env ≡ Is (magnitude_of x) → operand_value inputs wy env ≡ Is (magnitude_of y) → operand_value inputs (divided_magnitudes d wx wy dividend divisor) env ≡ Is (result_of d x y)
    magnitudes_value wx wy dividend divisor nx ny hx hy =
        sign_value inputs (result_negative d dividend divisor) (Bin (division_operator d) wx wy) (unsigned_result d (magnitude_of x) (magnitude_of y)) env
        (quotient_value inputs d wx wy (magnitude_of x) (magnitude_of y) env (laws.magnitude_not_zero y y_word divides) hx hy)
        ∙ ap Is (sym (result_is d x y x_word y_word ∙ ap (λ n. with_sign (result_negative d n (is_negative y)) (unsigned_result d (magnitude_of x) (magnitude_of y))) nx
        ∙ ap (λ n. with_sign (result_negative d dividend n) (unsigned_result d (magnitude_of x) (magnitude_of y))) ny))

    -- the magnitude and the sign of the divisor are known
    dividend_assigns : (c : Option ℕ) (wx wy : Operand) (divisor : Bool) → IsKnown c x → is_negative y ≡ divisor → operand_value inputs wx env ≡ Is x → operand_value inputs wy env ≡ Is (magnitude_of y) → Assigns inputs (by_dividend d c wx wy divisor v) v (Is (result_of d x y)) env
    dividend_assigns (Some c) wx wy divisor known ny hx hy =
        set_assigns inputs v (divided_magnitudes d (Const (magnitude_of c)) wy (is_negative c) divisor) (result_of d x y) env
        (magnitudes_value (Const (magnitude_of c)) wy (is_negative c) divisor (ap is_negative (sym known)) ny (ap (λ n. Is (magnitude_of n)) known) hy)
    dividend_assigns None wx wy divisor known ny hx hy = by_sign (nat_lt x (2 ^ 63)) refl
      where
        as_it_is : Operand
        as_it_is = divided_magnitudes d wx wy false divisor

        turned : Operand
        turned = divided_magnitudes d (minus wx) wy true divisor

        by_sign : (b : Bool) → nat_lt x (2 ^ 63) ≡ b → Assigns inputs (by_dividend d None wx wy divisor v) v (Is (result_of d x y)) env
        by_sign true e =
            first_assigns inputs (Less wx (Const (2 ^ 63))) (set v as_it_is) (set v turned) v (result_of d x y) env (natural_tested inputs wx x env true hx e)
            (set_assigns inputs v as_it_is (result_of d x y) env
            (magnitudes_value wx wy false divisor (ap not e) ny (hx ∙ ap Is (sym (magnitude_same x (ap not e)))) hy))
        by_sign false e =
            second_assigns inputs (Less wx (Const (2 ^ 63))) (set v as_it_is) (set v turned) v (result_of d x y) env (natural_tested inputs wx x env false hx e)
            (set_assigns inputs v turned (result_of d x y) env
            (magnitudes_value (minus wx) wy true divisor (ap not e) ny (minus_value inputs wx x env hx ∙ ap Is (sym (magnitude_minus x (ap not e)))) hy))

    -- the sign of a divisor that isn't 0 is looked at
    signed_divisor_assigns : (c : Option ℕ) (wx wy : Operand) → IsKnown c x → operand_value inputs wx env ≡ Is x → operand_value inputs wy env ≡ Is y → Assigns inputs (Cons (If (Less wy (Const (2 ^ 63))) (by_dividend d c wx wy false v) (by_dividend d c wx (minus wy) true v)) Nil) v (Is (result_of d x y)) env
    signed_divisor_assigns c wx wy known hx hy = by_sign (nat_lt y (2 ^ 63)) refl
      where
        by_sign : (b : Bool) → nat_lt y (2 ^ 63) ≡ b → Assigns inputs (Cons (If (Less wy (Const (2 ^ 63))) (by_dividend d c wx wy false v) (by_dividend d c wx (minus wy) true v)) Nil) v (Is (result_of d x y)) env
        by_sign true e =
            first_assigns inputs (Less wy (Const (2 ^ 63))) (by_dividend d c wx wy false v) (by_dividend d c wx (minus wy) true v) v (result_of d x y) env (natural_tested inputs wy y env true hy e)
            (dividend_assigns c wx wy false known (ap not e) hx (hy ∙ ap Is (sym (magnitude_same y (ap not e)))))
        by_sign false e =
            second_assigns inputs (Less wy (Const (2 ^ 63))) (by_dividend d c wx wy false v) (by_dividend d c wx (minus wy) true v) v (result_of d x y) env (natural_tested inputs wy y env false hy e)
            (dividend_assigns c wx (minus wy) true known (ap not e) hx (minus_value inputs wy y env hy ∙ ap Is (sym (magnitude_minus y (ap not e)))))

  -- the statements of a division assign its result, or return 1
  pub divisor_assigns : (inputs : List Input) (d : Division) (m n : Option ℕ) (wx wy : Operand) (x y v : ℕ) (env : List ℕ) → HasValue inputs m wx x env → HasValue inputs n wy y env → Assigns inputs (by_divisor d m n wx wy v) v (unless_zero Trap y (result_of d x y)) env
  divisor_assigns inputs d m (Some zero) wx wy x zero v env left_is right_is = λ left. refl
  divisor_assigns inputs d m (Some zero) wx wy x (suc y) v env left_is right_is = let known : 0 ≡ suc y = right_is.known in absurd cc
  divisor_assigns inputs d m (Some (suc c)) wx wy x zero v env left_is right_is = let known : suc c ≡ 0 = right_is.known in absurd cc
  divisor_assigns inputs d m (Some (suc c)) wx wy x (suc y) v env left_is right_is =
      dividend_assigns inputs d x (suc y) left_is.word right_is.word (λ e. absurd cc) v env m wx (Const (magnitude_of (suc c))) (is_negative (suc c)) left_is.known
      (ap is_negative (sym right_is.known)) left_is.is (ap (λ k. Is (magnitude_of k)) right_is.known)
  divisor_assigns inputs d m None wx wy x zero v env left_is right_is = λ left.
      ap (λ g. then_do (on_test g (run inputs (Cons (Ret verdict.Trap) Nil) env left) (run inputs Nil env left)) (run inputs (Cons (If (Less wy (Const (2 ^ 63))) (by_dividend d m wx wy false v) (by_dividend d m wx (minus wy) true v)) Nil)))
      (zero_tested inputs wy zero env true right_is.is refl)
  divisor_assigns inputs d m None wx wy x (suc y) v env left_is right_is = λ left.
      ap (λ g. then_do (on_test g (run inputs (Cons (Ret verdict.Trap) Nil) env left) (run inputs Nil env left)) (run inputs (Cons (If (Less wy (Const (2 ^ 63))) (by_dividend d m wx wy false v) (by_dividend d m wx (minus wy) true v)) Nil)))
      (zero_tested inputs wy (suc y) env false right_is.is (eqb-suc-zero y))
      ∙ ap (after []) (signed_divisor_assigns inputs d x (suc y) left_is.word right_is.word (λ e. absurd cc) v env m wx wy left_is.known left_is.is right_is.is left)
