-- A constant is the value of its expression, and a word.
use Rattle.std.proofs.Common.{◌≡◌, ℕ, zero, suc, ◌+◌, ◌-◌, ◌*◌, ◌^◌, Bool, true, false, ◌&&◌, List, Option, Some, None, refl, sym, subst, arith}
use Rattle.std.specs.Prelude.{IsTrue}
use Rattle.std.proofs.Math.Nat.{mod-lt}
use Rattle.std.proofs.lemmas.Bool.{ltb-true}
use Rattle.strm_num.proofs.Truths.{both_true, true_both}
use Rattle.strm_num.specs.Words.{IsWord, quotient_of, remainder_of, truth_of}
use Rattle.list_denotation.specs.declared.expr.BinOp.{BinOp}
use Rattle.list_denotation.specs.declared.expr.BinOp.TheVariants as sign
use Rattle.list_denotation.specs.declared.input.Input.{Input}
use Rattle.list_denotation.specs.Literals.{has_words}
use Rattle.list_denotation.specs.Terms.{Term, Lit, Truth, Var, Param, Len, Neg, Not, Bin, And, Or, If}
use Rattle.list_denotation.specs.Values.{Trap, Got, Is, Fails, with_value, choice, unless_zero, operation_of, value}
use Rattle.expr_values.specs.Results.{got_of}
use Rattle.expr_constants.specs.Constants.{with_constant, constant_result, truth_constant, constant_of, IsWordConstant}
use Rattle.expr_constants.specs.Laws.{Laws}

-- ---- what the code computes

-- a computed result is known where there is one
pub constant_got : (o : Option ℕ) → constant_result (got_of o) ≡ o
constant_got (Some x) = refl
constant_got None = refl

pub words_joined : (a b : Term) → IsTrue (has_words a) → IsTrue (has_words b) → IsTrue (has_words a && has_words b)
words_joined a b h k = true_both (has_words a) (has_words b) h k

-- ---- values

-- what is known of a value is it
abbrev IsValueOf : Option ℕ → Got ℕ → Type 0
IsValueOf None g = Unit {0}
IsValueOf (Some c) g = g ≡ Is c

then_known : (k : Option ℕ) (g : Got ℕ) (f : ℕ → Option ℕ) (h : ℕ → Got ℕ) → IsValueOf k g → ((x : ℕ) → IsValueOf (f x) (h x)) → IsValueOf (with_constant k f) (with_value g h)
then_known None g f h is more = tt
then_known (Some c) g f h is more =
    let P : Got ℕ → Type 0 = λ v. IsValueOf (f c) (with_value v h) in subst P (sym is) (more c)

known_result : (g : Got ℕ) → IsValueOf (constant_result g) g
known_result (Is x) = refl
known_result (Fails f) = tt

known_choice : (x : ℕ) (k m : Option ℕ) (g h : Got ℕ) → IsValueOf k g → IsValueOf m h → IsValueOf (choice x k m) (choice x g h)
known_choice zero k m g h is other = is
known_choice (suc x) k m g h is other = other

module _ (words : List ℕ) (inputs : List Input) where
  abbrev IsKnownValue : Term → Type 0
  IsKnownValue e = IsValueOf (constant_of e) (value e words inputs)

  known_truth : (e : Term) → IsKnownValue e → IsValueOf (truth_constant (constant_of e)) (with_value (value e words inputs) (λ y. Is (choice y 0 1)))
  known_truth e is = then_known (constant_of e) (value e words inputs) _ _ is (λ x. refl)

  known_value : (e : Term) → IsKnownValue e
  known_value (Lit c) = refl
  known_value (Truth b) = refl
  known_value (Var k) = tt
  known_value (Param k) = tt
  known_value (Len k) = tt
  known_value (Neg a) = then_known (constant_of a) (value a words inputs) _ _ (known_value a) (λ x. refl)
  known_value (Not a) = then_known (constant_of a) (value a words inputs) _ _ (known_value a) (λ x. refl)
  known_value (Bin o a b) =
      then_known (constant_of a) (value a words inputs) _ _ (known_value a)
      (λ x. then_known (constant_of b) (value b words inputs) _ _ (known_value b) (λ y. known_result (operation_of o x y)))
  known_value (And a b) =
      then_known (constant_of a) (value a words inputs) _ _ (known_value a)
      (λ x. known_choice x _ _ _ _ refl (known_truth b (known_value b)))
  known_value (Or a b) =
      then_known (constant_of a) (value a words inputs) _ _ (known_value a)
      (λ x. known_choice x _ _ _ _ (known_truth b (known_value b)) refl)
  known_value (If c a b) =
      then_known (constant_of c) (value c words inputs) _ _ (known_value c)
      (λ x. known_choice x _ _ _ _ (known_value b) (known_value a))

pub constant_value : (e : Term) (c : ℕ) (words : List ℕ) (inputs : List Input) → constant_of e ≡ Some c → value e words inputs ≡ Is c
constant_value e c words inputs h =
    let P : Option ℕ → Type 0 = λ k. IsValueOf k (value e words inputs) in subst P h (known_value words inputs e)

-- ---- words

truth_word : (b : Bool) → IsWord (truth_of b)
truth_word true = omega arith
truth_word false = omega arith

either_word : (x m n : ℕ) → IsWord m → IsWord n → IsWord (choice x m n)
either_word zero m n h j = h
either_word (suc x) m n h j = j

choice_word : (x : ℕ) (k m : Option ℕ) → IsWordConstant k → IsWordConstant m → IsWordConstant (choice x k m)
choice_word zero k m h j = h
choice_word (suc x) k m h j = j

then_word : (k : Option ℕ) (f : ℕ → Option ℕ) → ((x : ℕ) → IsWordConstant (f x)) → IsWordConstant (with_constant k f)
then_word None f h = tt
then_word (Some c) f h = h c

truth_is_word : (k : Option ℕ) → IsWordConstant (truth_constant k)
truth_is_word k = then_word k _ (λ x. either_word x 0 1 (omega arith) (omega arith))

module _ (laws : Laws) where
  divided_word : (y q : ℕ) → IsWord q → IsWordConstant (constant_result (unless_zero Trap y q))
  divided_word zero q h = tt
  divided_word (suc y) q h = h

  result_word : (o : BinOp) (x y : ℕ) → IsWordConstant (constant_result (operation_of o x y))
  result_word sign.Add x y = mod-lt (x + y) (omega arith)
  result_word sign.Sub x y = mod-lt (x + (2 ^ 64 - y)) (omega arith)
  result_word sign.Mul x y = mod-lt (x * y) (omega arith)
  result_word sign.Div x y = divided_word y (quotient_of x y) (laws.quotient_word x y)
  result_word sign.Rem x y = divided_word y (remainder_of x y) (laws.remainder_word x y)
  result_word sign.Eq x y = truth_word _
  result_word sign.Ne x y = truth_word _
  result_word sign.Lt x y = truth_word _
  result_word sign.Le x y = truth_word _
  result_word sign.Gt x y = truth_word _
  result_word sign.Ge x y = truth_word _

  pub constant_word : (e : Term) → IsTrue (has_words e) → IsWordConstant (constant_of e)
  constant_word (Lit c) h = ltb-true c (2 ^ 64) h
  constant_word (Truth b) h = truth_word b
  constant_word (Var k) h = tt
  constant_word (Param k) h = tt
  constant_word (Len k) h = tt
  constant_word (Neg a) h = then_word (constant_of a) _ (λ x. mod-lt (2 ^ 64 - x) (omega arith))
  constant_word (Not a) h = then_word (constant_of a) _ (λ x. either_word x 1 0 (omega arith) (omega arith))
  constant_word (Bin o a b) h = then_word (constant_of a) _ (λ x. then_word (constant_of b) _ (λ y. result_word o x y))
  constant_word (And a b) h = then_word (constant_of a) _ (λ x. choice_word x (Some 0) (truth_constant (constant_of b)) (omega arith) (truth_is_word (constant_of b)))
  constant_word (Or a b) h = then_word (constant_of a) _ (λ x. choice_word x (truth_constant (constant_of b)) (Some 1) (truth_is_word (constant_of b)) (omega arith))
  constant_word (If c a b) h =
      let parts = both_true (has_words c) (has_words a && has_words b) h in
      let rest = both_true (has_words a) (has_words b) parts.1 in
      then_word (constant_of c) _ (λ x. choice_word x (constant_of b) (constant_of a) (constant_word b rest.1) (constant_word a rest.0))
