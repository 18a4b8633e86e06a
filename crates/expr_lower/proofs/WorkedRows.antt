-- Worked expressions: what their statements are, and what they do.
use Rattle.std.specs.Prelude.{◌≡◌, refl, true, false, ◌-◌, ◌^◌, [], ◌∷◌}
use Rattle.list_denotation.specs.declared.expr.BinOp.TheVariants as sign
use Rattle.list_denotation.specs.Terms as term
use Rattle.list_denotation.specs.Terms.{Term}
use Rattle.list_denotation.specs.Values.{Trap}
use Rattle.list_denotation.specs.Observation.{Failed}
use Rattle.loop_ir.specs.declared.syntax.WOp.TheVariants as op
use Rattle.loop_ir.specs.declared.syntax.Verdict.TheVariants as verdict
use Rattle.loop_ir.specs.Statements.{Const, Var, Int, Bin, Same, Less, Not, Set, If, Ret, Nil, Cons}
use Rattle.loop_ir.specs.Meaning.{Runs, Over, run}
use Rattle.expr_lower.specs.Lowering.{lowered_term, lowered_into, lowered_test}
use Rattle.list_denotation.specs.Costs.{cost}
use Rattle.expr_lower.specs.Costs.{temps_of}

-- 10 / x
abbrev ten_by : Term
ten_by = term.Bin sign.Div (term.Lit 10) (term.Var 0)

-- if x == 0 then 0 else 10 / x
abbrev guarded : Term
guarded = term.If (term.Bin sign.Eq (term.Var 0) (term.Lit 0)) (term.Lit 0) ten_by

-- x in variable 1, the target 2: the divisor alone is tested
ten_by_text : lowered_into (1 ∷ []) ten_by 2 3
    ≡ Cons (If (Same (Var 1) (Const 0)) (Cons (Ret verdict.Trap) Nil) Nil)
    (Cons (If (Less (Var 1) (Const (2 ^ 63)))
    (Cons (Set 2 (Bin op.Div (Const 10) (Var 1))) Nil)
    (Cons (Set 2 (Bin op.Sub (Const 0) (Bin op.Div (Const 10) (Bin op.Sub (Const 0) (Var 1))))) Nil))
    Nil)
unfolding lowered_term
ten_by_text = refl

ten_by_five : run [] (lowered_into (1 ∷ []) ten_by 2 3) (0 ∷ 5 ∷ 0 ∷ []) 0 ≡ Runs [] (0 ∷ 5 ∷ 2 ∷ []) 0
unfolding lowered_term
ten_by_five = refl

-- 10 / -3 is -3
ten_by_minus_three : run [] (lowered_into (1 ∷ []) ten_by 2 3) (0 ∷ (2 ^ 64 - 3) ∷ 0 ∷ []) 0 ≡ Runs [] (0 ∷ (2 ^ 64 - 3) ∷ (2 ^ 64 - 3) ∷ []) 0
unfolding lowered_term
ten_by_minus_three = refl

ten_by_zero : run [] (lowered_into (1 ∷ []) ten_by 2 3) (0 ∷ 0 ∷ 7 ∷ []) 4 ≡ Over [] (Failed Trap)
unfolding lowered_term
ten_by_zero = refl

guarded_zero : run [] (lowered_into (1 ∷ []) guarded 2 3) (0 ∷ 0 ∷ 7 ∷ []) 0 ≡ Runs [] (0 ∷ 0 ∷ 0 ∷ []) 0
unfolding lowered_term
guarded_zero = refl

guarded_five : run [] (lowered_into (1 ∷ []) guarded 2 3) (0 ∷ 5 ∷ 7 ∷ []) 0 ≡ Runs [] (0 ∷ 5 ∷ 2 ∷ []) 0
unfolding lowered_term
guarded_five = refl

-- x % -2 over -7 is -1, with no test of the divisor
remainder_text : lowered_into (1 ∷ []) (term.Bin sign.Rem (term.Var 0) (term.Neg (term.Lit 2))) 2 3
    ≡ Cons (If (Less (Var 1) (Const (2 ^ 63)))
    (Cons (Set 2 (Bin op.Rem (Var 1) (Const 2))) Nil)
    (Cons (Set 2 (Bin op.Sub (Const 0) (Bin op.Rem (Bin op.Sub (Const 0) (Var 1)) (Const 2)))) Nil))
    Nil
unfolding lowered_term
remainder_text = refl

-- the least word by -1 is itself
least_by_minus_one : run [] (lowered_into (1 ∷ []) (term.Bin sign.Div (term.Var 0) (term.Neg (term.Lit 1))) 2 3) (0 ∷ (2 ^ 63) ∷ 0 ∷ []) 0
    ≡ Runs [] (0 ∷ (2 ^ 63) ∷ (2 ^ 63) ∷ []) 0
unfolding lowered_term
least_by_minus_one = refl

-- x * x + 1 needs one assignment and no temporary
square_text : lowered_into (1 ∷ []) (term.Bin sign.Add (term.Bin sign.Mul (term.Var 0) (term.Var 0)) (term.Lit 1)) 2 3
    ≡ Cons (Set 2 (Bin op.Add (Bin op.Mul (Var 1) (Var 1)) (Const 1))) Nil
unfolding lowered_term
square_text = refl

no_temporaries : temps_of guarded ≡ 0
no_temporaries = refl

-- a quotient of quotients keeps the right one in a temporary
two_quotients : temps_of (term.Bin sign.Div ten_by ten_by) ≡ 1
two_quotients = refl

its_cost : cost guarded ≡ 18
its_cost = refl

-- x > 1: the top bit of the constant is turned round here
above_one_text : (lowered_test (1 ∷ []) (term.Bin sign.Gt (term.Var 0) (term.Lit 1)) 2 3).test
    ≡ Less (Const 9223372036854775809) (Bin op.Xor (Var 1) (Const 9223372036854775808))
unfolding lowered_term
above_one_text = refl

-- x >= 0: the top bit alone tells
natural_text : (lowered_test (1 ∷ []) (term.Bin sign.Ge (term.Var 0) (term.Lit 0)) 2 3).test ≡ Less (Var 1) (Const 9223372036854775808)
unfolding lowered_term
natural_text = refl

-- if e < 0 then 0 else e
abbrev at_least_zero : Term → Term
at_least_zero e = term.If (term.Bin sign.Lt e (term.Lit 0)) (term.Lit 0) e

constant_text : lowered_into (1 ∷ []) (at_least_zero (term.Lit 5)) 2 3 ≡ Cons (Set 2 (Const 5)) Nil
unfolding lowered_term
constant_text = refl

negative_text : lowered_into (1 ∷ []) (at_least_zero (term.Neg (term.Lit 5))) 2 3 ≡ Cons (Set 2 (Const 0)) Nil
unfolding lowered_term
negative_text = refl

input_text : lowered_into (1 ∷ []) (at_least_zero (term.Param 0)) 2 3
    ≡ Cons (If (Not (Less (Int 0) (Const (2 ^ 63)))) (Cons (Set 2 (Const 0)) Nil) (Cons (Set 2 (Int 0)) Nil)) Nil
unfolding lowered_term
input_text = refl

-- a part that a constant rules out has neither statements nor temporaries
ruled_out_text : lowered_into (1 ∷ []) (term.If (term.Truth true) (term.Var 0) (term.Bin sign.Add ten_by ten_by)) 2 3 ≡ Cons (Set 2 (Var 1)) Nil
unfolding lowered_term
ruled_out_text = refl

ruled_out_temporaries : temps_of (term.If (term.Truth true) (term.Var 0) (term.Bin sign.Add ten_by ten_by)) ≡ 0
ruled_out_temporaries = refl

-- true && x == 5 is x == 5
second_text : (lowered_test (1 ∷ []) (term.And (term.Truth true) (term.Bin sign.Eq (term.Var 0) (term.Lit 5))) 2 3).test ≡ Same (Var 1) (Const 5)
unfolding lowered_term
second_text = refl

-- x == 5 || false is x == 5
first_text : (lowered_test (1 ∷ []) (term.Or (term.Bin sign.Eq (term.Var 0) (term.Lit 5)) (term.Truth false)) 2 3).test ≡ Same (Var 1) (Const 5)
unfolding lowered_term
first_text = refl

-- a constant that is true always holds, and false never does
true_text : (lowered_test [] (term.Truth true) 2 3).test ≡ Same (Const 0) (Const 0)
unfolding lowered_term
true_text = refl

seven_text : (lowered_test [] (term.Bin sign.Add (term.Lit 3) (term.Lit 4)) 2 3).test ≡ Same (Const 0) (Const 0)
unfolding lowered_term
seven_text = refl

false_text : (lowered_test [] (term.Truth false) 2 3).test ≡ Not (Same (Const 0) (Const 0))
unfolding lowered_term
false_text = refl

-- x % 2 == 0 tests the word itself
even_text : lowered_test (1 ∷ []) (term.Bin sign.Eq (term.Bin sign.Rem (term.Var 0) (term.Lit 2)) (term.Lit 0)) 2 3
    ≡ record { block = Nil; test = Same (Bin op.Rem (Var 1) (Const 2)) (Const 0) }
unfolding lowered_term
even_text = refl

-- x % 3 != 0 tests its magnitude
no_third_text : lowered_test (1 ∷ []) (term.Bin sign.Ne (term.Bin sign.Rem (term.Var 0) (term.Lit 3)) (term.Lit 0)) 2 3
    ≡ record {
      block = Cons (If (Less (Var 1) (Const (2 ^ 63))) (Cons (Set 2 (Var 1)) Nil) (Cons (Set 2 (Bin op.Sub (Const 0) (Var 1))) Nil)) Nil;
      test = Not (Same (Bin op.Rem (Var 2) (Const 3)) (Const 0));
    }
unfolding lowered_term
no_third_text = refl

-- 0 == (x + 1) % -3: the sum is put into the target, and there its magnitude
of_sum_text : lowered_test (1 ∷ []) (term.Bin sign.Eq (term.Lit 0) (term.Bin sign.Rem (term.Bin sign.Add (term.Var 0) (term.Lit 1)) (term.Neg (term.Lit 3)))) 2 3
    ≡ record {
      block =
          Cons (Set 2 (Bin op.Add (Var 1) (Const 1)))
          (Cons (If (Less (Var 2) (Const (2 ^ 63))) Nil (Cons (Set 2 (Bin op.Sub (Const 0) (Var 2))) Nil)) Nil);
      test = Same (Bin op.Rem (Var 2) (Const 3)) (Const 0);
    }
unfolding lowered_term
of_sum_text = refl

of_sum_temporaries : temps_of (term.Bin sign.Eq (term.Lit 0) (term.Bin sign.Rem (term.Bin sign.Add (term.Var 0) (term.Lit 1)) (term.Lit 3))) ≡ 0
of_sum_temporaries = refl
