-- Expressions whose value is known as they stand: they read no name, and have a value.
use Rattle.std.specs.Prelude.{ℕ, Option, Some, None}
use Rattle.strm_num.specs.Words.{IsWord, negation_of, truth_of}
use Rattle.list_denotation.specs.declared.expr.BinOp.{BinOp}
use Rattle.list_denotation.specs.Terms.{Term, Lit, Truth, Var, Param, Len, Neg, Not, Bin, And, Or, If}
use Rattle.list_denotation.specs.Values.{Got, Is, Fails, choice, operation_of}

-- one thing where the constant is known, and another where it isn't
abbrev pub by_constant : {A : Type 0} → Option ℕ → (ℕ → A) → A → A
by_constant (Some c) known unknown = known c
by_constant None known unknown = unknown

abbrev pub with_constant : Option ℕ → (ℕ → Option ℕ) → Option ℕ
with_constant k go = by_constant k go None

-- a result, where there is one
abbrev pub constant_result : Got ℕ → Option ℕ
constant_result (Is x) = Some x
constant_result (Fails f) = None

-- the constants of expressions, from those of their parts
abbrev pub negated_constant : Option ℕ → Option ℕ
negated_constant k = with_constant k (λ x. Some (negation_of x))

abbrev pub opposite_constant : Option ℕ → Option ℕ
opposite_constant k = with_constant k (λ x. Some (choice x 1 0))

abbrev pub operation_constant : BinOp → Option ℕ → Option ℕ → Option ℕ
operation_constant o k m = with_constant k (λ x. with_constant m (λ y. constant_result (operation_of o x y)))

-- the second part of `&&` and `||`, where it decides
abbrev pub truth_constant : Option ℕ → Option ℕ
truth_constant k = with_constant k (λ x. Some (choice x 0 1))

abbrev pub conjunction_constant : Option ℕ → Option ℕ → Option ℕ
conjunction_constant k m = with_constant k (λ x. choice x (Some 0) (truth_constant m))

abbrev pub disjunction_constant : Option ℕ → Option ℕ → Option ℕ
disjunction_constant k m = with_constant k (λ x. choice x (truth_constant m) (Some 1))

abbrev pub chosen_constant : Option ℕ → Option ℕ → Option ℕ → Option ℕ
chosen_constant c k m = with_constant c (λ x. choice x m k)

-- the value of an expression that reads no name; of all else, and of one that traps, there is none
abbrev pub constant_of : Term → Option ℕ
constant_of (Lit c) = Some c
constant_of (Truth b) = Some (truth_of b)
constant_of (Var k) = None
constant_of (Param k) = None
constant_of (Len k) = None
constant_of (Neg a) = negated_constant (constant_of a)
constant_of (Not a) = opposite_constant (constant_of a)
constant_of (Bin o a b) = operation_constant o (constant_of a) (constant_of b)
constant_of (And a b) = conjunction_constant (constant_of a) (constant_of b)
constant_of (Or a b) = disjunction_constant (constant_of a) (constant_of b)
constant_of (If c a b) = chosen_constant (constant_of c) (constant_of a) (constant_of b)

-- the constant is a word, where there is one
abbrev pub IsWordConstant : Option ℕ → Type 0
IsWordConstant None = Unit {0}
IsWordConstant (Some c) = IsWord c
