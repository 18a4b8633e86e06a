-- The constants and the names in phrases: what passes in the parts of a phrase passes in the phrase, if word constants do.
use Rattle.std.proofs.Common.{ℕ, zero, suc, ◌+◌, ◌^◌, Bool, true, false, ◌&&◌, Option, Some, None, refl, arith}
use Rattle.std.specs.Prelude.{IsTrue, if◌then◌else◌}
use Rattle.std.proofs.Math.Nat.{mod-lt}
use Rattle.strm_num.proofs.Truths.{true_both}
use Rattle.strm_num.specs.Words.{IsWord, sum_of}
use Rattle.strm_num.specs.Magnitudes.{is_negative, magnitude_of}
use Rattle.list_denotation.specs.declared.expr.BinOp.{BinOp}
use Rattle.list_denotation.specs.declared.expr.BinOp.TheVariants as sign
use Rattle.loop_ir.specs.Leaves.{operand_leaves, test_leaves, block_leaves}
use Rattle.loop_ir.specs.Statements.{Operand, Const, Var, Len, Int, Bin, Test, Less, Same, Both, Either, Not, If, Ret, Block, Nil, Cons}
use Rattle.loop_ir.specs.declared.syntax.Verdict.TheVariants as verdict
use Rattle.loop_ir.specs.declared.syntax.WOp.TheVariants as op
use Rattle.expr_constants.specs.Constants.{IsWordConstant}
use Rattle.expr_phrases.specs.Laws.{Laws}
use Rattle.expr_phrases.specs.Phrases.{Division, set, minus, opposite, is_zero, is_natural, flipped_sign, signed_less, comparison_test, division_operator, result_negative, with_minus, divided_magnitudes, by_dividend, by_divisor, is_variable, magnitude_block, multiple_test}

module _ (passes : Operand → Bool) where
  abbrev InOperand : Operand → Type 0
  InOperand w = IsTrue (operand_leaves passes w)

  abbrev InTest : Test → Type 0
  InTest t = IsTrue (test_leaves passes t)

  abbrev InBlock : Block → Type 0
  InBlock b = IsTrue (block_leaves passes b)

  pub opposite_leaves : (t : Test) → InTest t → InTest (opposite t)
  opposite_leaves (Less a b) h = h
  opposite_leaves (Same a b) h = h
  opposite_leaves (Both a b) h = h
  opposite_leaves (Either a b) h = h
  opposite_leaves (Not t) h = h

  both : (a b : Operand) → InOperand a → InOperand b → IsTrue (operand_leaves passes a && operand_leaves passes b)
  both a b h k = true_both (operand_leaves passes a) (operand_leaves passes b) h k

  set_leaves : (v : ℕ) (w : Operand) → IsTrue (passes (Var v)) → InOperand w → InBlock (set v w)
  set_leaves v w h k = true_both (passes (Var v) && operand_leaves passes w) true (true_both (passes (Var v)) (operand_leaves passes w) h k) refl

  if_leaves : (t : Test) (a b more : Block) → InTest t → InBlock a → InBlock b → InBlock more → InBlock (Cons (If t a b) more)
  if_leaves t a b more h j k l =
      true_both (test_leaves passes t && (block_leaves passes a && block_leaves passes b)) (block_leaves passes more)
      (true_both (test_leaves passes t) (block_leaves passes a && block_leaves passes b) h (true_both (block_leaves passes a) (block_leaves passes b) j k)) l

  module _ (constants : (c : ℕ) → IsWord c → IsTrue (passes (Const c))) where
    sign_passes : InOperand (Const (2 ^ 63))
    sign_passes = constants (2 ^ 63) (omega arith)

    zero_passes : InOperand (Const 0)
    zero_passes = constants 0 (omega arith)

    -- ---- comparisons

    flipped_leaves : (x : Operand) → InOperand x → InOperand (flipped_sign x)
    flipped_leaves (Const c) h = constants (sum_of c (2 ^ 63)) (mod-lt (c + 2 ^ 63) (omega arith))
    flipped_leaves (Var v) h = both (Var v) (Const (2 ^ 63)) h sign_passes
    flipped_leaves (Len a) h = both (Len a) (Const (2 ^ 63)) h sign_passes
    flipped_leaves (Int k) h = both (Int k) (Const (2 ^ 63)) h sign_passes
    flipped_leaves (Bin o a b) h = both (Bin o a b) (Const (2 ^ 63)) h sign_passes

    natural_leaves : (w : Operand) → InOperand w → InTest (is_natural w)
    natural_leaves w h = both w (Const (2 ^ 63)) h sign_passes

    less_leaves : (x y : Operand) → InOperand x → InOperand y → InTest (signed_less x y)
    less_leaves x y h k =
        elim (is_zero y) as (λ b. InTest (if b then Not (is_natural x) else Less (flipped_sign x) (flipped_sign y)))
        [ true ↦ natural_leaves x h | false ↦ both (flipped_sign x) (flipped_sign y) (flipped_leaves x h) (flipped_leaves y k) ]

    pub comparison_leaves : (o : BinOp) (x y : Operand) → InOperand x → InOperand y → InTest (comparison_test o x y)
    comparison_leaves sign.Lt x y h k = less_leaves x y h k
    comparison_leaves sign.Le x y h k = opposite_leaves (signed_less y x) (less_leaves y x k h)
    comparison_leaves sign.Gt x y h k = less_leaves y x k h
    comparison_leaves sign.Ge x y h k = opposite_leaves (signed_less x y) (less_leaves x y h k)
    comparison_leaves _ x y h k = both x y h k

    -- ---- division

    minus_leaves : (w : Operand) → InOperand w → InOperand (minus w)
    minus_leaves w h = both (Const 0) w zero_passes h

    sign_leaves : (b : Bool) (w : Operand) → InOperand w → InOperand (with_minus b w)
    sign_leaves true w h = minus_leaves w h
    sign_leaves false w h = h

    divided_leaves : (d : Division) (x y : Operand) (dividend divisor : Bool) (v : ℕ) → IsTrue (passes (Var v)) → InOperand x → InOperand y → InBlock (set v (divided_magnitudes d x y dividend divisor))
    divided_leaves d x y dividend divisor v at h k =
        set_leaves v (divided_magnitudes d x y dividend divisor) at
        (sign_leaves (result_negative d dividend divisor) (Bin (division_operator d) x y) (both x y h k))

    module _ (laws : Laws) where
      magnitude_passes : (c : ℕ) → IsWord c → InOperand (Const (magnitude_of c))
      magnitude_passes c word = constants (magnitude_of c) (laws.magnitude_word c word)

      dividend_leaves : (d : Division) (m : Option ℕ) (x y : Operand) (divisor : Bool) (v : ℕ) → IsWordConstant m → IsTrue (passes (Var v)) → InOperand x → InOperand y → InBlock (by_dividend d m x y divisor v)
      dividend_leaves d (Some c) x y divisor v word at h k =
          divided_leaves d (Const (magnitude_of c)) y (is_negative c) divisor v at (magnitude_passes c word) k
      dividend_leaves d None x y divisor v word at h k =
          if_leaves (Less x (Const (2 ^ 63))) (set v (divided_magnitudes d x y false divisor)) (set v (divided_magnitudes d (minus x) y true divisor)) Nil
          (natural_leaves x h) (divided_leaves d x y false divisor v at h k) (divided_leaves d (minus x) y true divisor v at (minus_leaves x h) k) refl

      pub division_leaves : (d : Division) (m n : Option ℕ) (x y : Operand) (v : ℕ) → IsWordConstant m → IsWordConstant n → IsTrue (passes (Var v)) → InOperand x → InOperand y → InBlock (by_divisor d m n x y v)
      division_leaves d m (Some zero) x y v first second at h k = refl
      division_leaves d m (Some (suc c)) x y v first second at h k =
          dividend_leaves d m x (Const (magnitude_of (suc c))) (is_negative (suc c)) v first at h (magnitude_passes (suc c) second)
      division_leaves d m None x y v first second at h k =
          if_leaves (Same y (Const 0)) (Cons (Ret verdict.Trap) Nil) Nil (Cons (If (Less y (Const (2 ^ 63))) (by_dividend d m x y false v) (by_dividend d m x (minus y) true v)) Nil)
          (both y (Const 0) k zero_passes) refl refl
          (if_leaves (Less y (Const (2 ^ 63))) (by_dividend d m x y false v) (by_dividend d m x (minus y) true v) Nil
          (natural_leaves y k) (dividend_leaves d m x y false v first at h k) (dividend_leaves d m x (minus y) true v first at h (minus_leaves y k)) refl)

      -- ---- multiples

      pub multiple_leaves : (o : BinOp) (w : Operand) (c : ℕ) → IsWord c → InOperand w → InTest (multiple_test o w (magnitude_of c))
      multiple_leaves o w c word h =
          comparison_leaves o (Bin op.Rem w (Const (magnitude_of c))) (Const 0) (both w (Const (magnitude_of c)) h (magnitude_passes c word)) zero_passes

    pub magnitude_leaves : (w : Operand) (v : ℕ) → IsTrue (passes (Var v)) → InOperand w → InBlock (magnitude_block w v)
    magnitude_leaves w v at h =
        if_leaves (is_natural w) (if is_variable v w then Nil else set v w) (set v (minus w)) Nil (natural_leaves w h) (kept_leaves (is_variable v w)) (set_leaves v (minus w) at (minus_leaves w h)) refl
      where
        kept_leaves : (same : Bool) → InBlock (if same then Nil else set v w)
        kept_leaves true = refl
        kept_leaves false = set_leaves v w at h
