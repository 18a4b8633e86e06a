-- The tests of comparisons tell the order of the signed values.
use Rattle.std.proofs.Common.{◌≡◌, ℕ, zero, suc, ◌^◌, Bool, true, false, List, refl, sym, ap, ◌∙◌, arith}
use Rattle.std.specs.Prelude.{IsTrue, if◌then◌else◌, not, nat_lt, bit_xor}
use Rattle.std.proofs.lemmas.Grind.{common_steps}
use Rattle.std.proofs.Math.Dec.{eqb-suc-zero}
use Rattle.strm_num.specs.Words.{IsWord, sum_of, is_less}
use Rattle.list_denotation.specs.declared.expr.BinOp.{BinOp}
use Rattle.list_denotation.specs.declared.expr.BinOp.TheVariants as sign
use Rattle.list_denotation.specs.declared.input.Input.{Input}
use Rattle.list_denotation.specs.Values.{Is, with_value}
use Rattle.loop_ir.specs.Statements.{Operand, Const, Var, Len, Int, Bin, Less, Not}
use Rattle.loop_ir.specs.Meaning.{operand_value, test_value}
use Rattle.expr_phrases.specs.Laws.{Laws}
use Rattle.expr_phrases.specs.Phrases.{is_zero, is_natural, flipped_sign, signed_less, comparison_test}
use Rattle.expr_phrases.specs.Results.{comparison_truth}
use Rattle.expr_phrases.proofs.Opposites.{opposite_is}

-- the top bit turned round, by a sum
flipped_is : (x : ℕ) → IsWord x → sum_of x (2 ^ 63) ≡ bit_xor x (2 ^ 63)
flipped_is x h = grind (arith, common_steps)

below_zero : (x : ℕ) → IsWord x → is_less x 0 ≡ not (nat_lt x (2 ^ 63))
below_zero x h = grind (arith, common_steps)

-- a test of zero tells
zero_operand : (inputs : List Input) (w : Operand) (x : ℕ) (env : List ℕ) → IsTrue (is_zero w) → operand_value inputs w env ≡ Is x → x ≡ 0
zero_operand inputs (Const zero) x env h is = cc
zero_operand inputs (Const (suc n)) x env h is = let e : false ≡ true = sym (eqb-suc-zero n) ∙ h in absurd cc
zero_operand inputs (Var v) x env h is = absurd cc
zero_operand inputs (Len a) x env h is = absurd cc
zero_operand inputs (Int k) x env h is = absurd cc
zero_operand inputs (Bin o a b) x env h is = absurd cc

flipped_sign_is : (inputs : List Input) (w : Operand) (x : ℕ) (env : List ℕ) → IsWord x → operand_value inputs w env ≡ Is x → operand_value inputs (flipped_sign w) env ≡ Is (bit_xor x (2 ^ 63))
flipped_sign_is inputs (Const c) x env word h = let same : c ≡ x = cc in ap (λ n. Is (sum_of n (2 ^ 63))) same ∙ ap Is (flipped_is x word)
flipped_sign_is inputs (Var v) x env word h = ap (λ g. with_value g (λ n. Is (bit_xor n (2 ^ 63)))) h
flipped_sign_is inputs (Len a) x env word h = ap (λ g. with_value g (λ n. Is (bit_xor n (2 ^ 63)))) h
flipped_sign_is inputs (Int k) x env word h = ap (λ g. with_value g (λ n. Is (bit_xor n (2 ^ 63)))) h
flipped_sign_is inputs (Bin o a b) x env word h = ap (λ g. with_value g (λ n. Is (bit_xor n (2 ^ 63)))) h

natural_value : (inputs : List Input) (w : Operand) (x : ℕ) (env : List ℕ) → operand_value inputs w env ≡ Is x → test_value inputs (is_natural w) env ≡ Is (nat_lt x (2 ^ 63))
natural_value inputs w x env h = rw (h) refl

module _ (laws : Laws) (inputs : List Input) where
  signed_less_is : (wx wy : Operand) (x y : ℕ) (env : List ℕ) → IsWord x → IsWord y → operand_value inputs wx env ≡ Is x → operand_value inputs wy env ≡ Is y → test_value inputs (signed_less wx wy) env ≡ Is (is_less x y)
  signed_less_is wx wy x y env x_word y_word hx hy = by_zero (is_zero wy) refl
    where
      flipped_less : test_value inputs (Less (flipped_sign wx) (flipped_sign wy)) env ≡ Is (is_less x y)
      flipped_less =
          rw (flipped_sign_is inputs wx x env x_word hx, flipped_sign_is inputs wy y env y_word hy) (ap Is (sym (laws.less x y x_word y_word)))

      sign_tested : IsTrue (is_zero wy) → test_value inputs (Not (is_natural wx)) env ≡ Is (is_less x y)
      sign_tested e =
          ap (λ g. with_value g (λ b. Is (not b))) (natural_value inputs wx x env hx)
          ∙ ap Is (sym (below_zero x x_word)) ∙ ap (λ n. Is (is_less x n)) (sym (zero_operand inputs wy y env e hy))

      by_zero : (b : Bool) → is_zero wy ≡ b → test_value inputs (signed_less wx wy) env ≡ Is (is_less x y)
      by_zero true e = ap (λ b. test_value inputs (if b then Not (is_natural wx) else Less (flipped_sign wx) (flipped_sign wy)) env) e ∙ sign_tested e
      by_zero false e = ap (λ b. test_value inputs (if b then Not (is_natural wx) else Less (flipped_sign wx) (flipped_sign wy)) env) e ∙ flipped_less

  pub comparison_test_is : (o : BinOp) (wx wy : Operand) (x y : ℕ) (env : List ℕ) → IsWord x → IsWord y → operand_value inputs wx env ≡ Is x → operand_value inputs wy env ≡ Is y → test_value inputs (comparison_test o wx wy) env ≡ Is (comparison_truth o x y)
  comparison_test_is sign.Ne wx wy x y env x_word y_word hx hy = rw (hx, hy) refl
  comparison_test_is sign.Lt wx wy x y env x_word y_word hx hy = signed_less_is wx wy x y env x_word y_word hx hy
  comparison_test_is sign.Le wx wy x y env x_word y_word hx hy =
      opposite_is inputs (signed_less wy wx) env (is_less y x) (signed_less_is wy wx y x env y_word x_word hy hx)
  comparison_test_is sign.Gt wx wy x y env x_word y_word hx hy = signed_less_is wy wx y x env y_word x_word hy hx
  comparison_test_is sign.Ge wx wy x y env x_word y_word hx hy =
      opposite_is inputs (signed_less wx wy) env (is_less x y) (signed_less_is wx wy x y env x_word y_word hx hy)
  comparison_test_is _ wx wy x y env x_word y_word hx hy = rw (hx, hy) refl
