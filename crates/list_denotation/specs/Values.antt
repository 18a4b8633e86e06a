-- What an expression gives.
use Rattle.std.specs.Prelude.{ℕ, zero, suc, List, [], ◌∷◌, length, not, ◌==◌, slice_get, slice_index}
use Rattle.strm_num.specs.Words.{sum_of, difference_of, product_of, negation_of, quotient_of, remainder_of, is_less, truth_of}
use Rattle.list_denotation.specs.declared.expr.BinOp.{BinOp}
use Rattle.list_denotation.specs.declared.expr.BinOp.TheVariants.{Add, Sub, Mul, Div, Rem, Eq, Ne, Lt, Le, Gt, Ge}
use Rattle.list_denotation.specs.declared.input.Input.{Input}
use Rattle.list_denotation.specs.Terms.{Term, Lit, Truth, Var, Param, Len, Neg, Not, Bin, And, Or, If}
use Rattle.list_denotation.specs.Inputs.{items_in, word_in}

-- why there is no value: a trap of a pipeline, or what C leaves undefined
pub data Fault : Type 0 where
  Trap Stuck : Fault

-- a value, or why there is none
pub data Got (A : Type 0) : Type 0 where
  Is : A → Got A
  Fails : Fault → Got A

abbrev pub with_value : {A B : Type 0} → Got A → (A → Got B) → Got B
with_value (Is x) go = go x
with_value (Fails f) go = Fails f

-- the first of two where a word is false, and the second where it is true: 0 is false, and every other word is true
abbrev pub choice : {A : Type 0} → ℕ → A → A → A
choice zero at_false at_true = at_false
choice (suc w) at_false at_true = at_true

-- a quotient or remainder, and a fault where the divisor is 0
abbrev pub unless_zero : Fault → ℕ → ℕ → Got ℕ
unless_zero f zero q = Fails f
unless_zero f (suc y) q = Is q

abbrev pub operation_of : BinOp → ℕ → ℕ → Got ℕ
operation_of Add x y = Is (sum_of x y)
operation_of Sub x y = Is (difference_of x y)
operation_of Mul x y = Is (product_of x y)
operation_of Div x y = unless_zero Trap y (quotient_of x y)
operation_of Rem x y = unless_zero Trap y (remainder_of x y)
operation_of Eq x y = Is (truth_of (x == y))
operation_of Ne x y = Is (truth_of (not (x == y)))
operation_of Lt x y = Is (truth_of (is_less x y))
operation_of Le x y = Is (truth_of (not (is_less y x)))
operation_of Gt x y = Is (truth_of (is_less y x))
operation_of Ge x y = Is (truth_of (not (is_less x y)))

-- the value of an expression over the bound words, parts from left to right
abbrev pub value : Term → List ℕ → List Input → Got ℕ
value (Lit w) env inputs = Is w
value (Truth b) env inputs = Is (truth_of b)
value (Var k) env inputs = Is (slice_index env k)
value (Param k) env inputs = Is (word_in (slice_get inputs k))
value (Len k) env inputs = Is (length (items_in (slice_get inputs k)))
value (Neg a) env inputs = with_value (value a env inputs) (λ x. Is (negation_of x))
value (Not a) env inputs = with_value (value a env inputs) (λ x. Is (choice x 1 0))
value (Bin op a b) env inputs =
    with_value (value a env inputs) (λ x. with_value (value b env inputs) (λ y. operation_of op x y))
value (And a b) env inputs =
    with_value (value a env inputs) (λ x. choice x (Is 0) (with_value (value b env inputs) (λ y. Is (choice y 0 1))))
value (Or a b) env inputs =
    with_value (value a env inputs) (λ x. choice x (with_value (value b env inputs) (λ y. Is (choice y 0 1))) (Is 1))
value (If c a b) env inputs =
    with_value (value c env inputs) (λ x. choice x (value b env inputs) (value a env inputs))

-- the row of several expressions
abbrev pub row_value : List Term → List ℕ → List Input → Got (List ℕ)
row_value [] env inputs = Is []
row_value (e ∷ es) env inputs =
    with_value (value e env inputs) (λ x. with_value (row_value es env inputs) (λ row. Is (x ∷ row)))
