-- How many statements an expression takes in the text of a pipeline, at most.
use Rattle.std.specs.Prelude.{ℕ, ◌+◌}
use Rattle.list_denotation.specs.declared.expr.BinOp.{BinOp}
use Rattle.list_denotation.specs.declared.expr.BinOp.TheVariants.{Add, Sub, Mul, Div, Rem, Eq, Ne, Lt, Le, Gt, Ge}
use Rattle.list_denotation.specs.Terms.{Term, Lit, Truth, Var, Param, Len, Neg, Not, Bin, And, Or, If}

abbrev pub operation_cost : BinOp → ℕ
operation_cost Add = 1
operation_cost Sub = 1
operation_cost Mul = 1
operation_cost Div = 9
operation_cost Rem = 9
operation_cost Eq = 3
operation_cost Ne = 3
operation_cost Lt = 3
operation_cost Le = 3
operation_cost Gt = 3
operation_cost Ge = 3

-- a bound on the statements of an expression
abbrev pub cost : Term → ℕ
cost (Lit c) = 1
cost (Truth b) = 1
cost (Var k) = 1
cost (Param k) = 1
cost (Len k) = 1
cost (Neg a) = cost a + 1
cost (Not a) = cost a + 3
cost (Bin o a b) = cost a + cost b + operation_cost o
cost (And a b) = cost a + cost b + 5
cost (Or a b) = cost a + cost b + 5
cost (If c a b) = cost c + cost a + cost b + 1
