-- The leaves of an expression: its numbers, its truths and its names.
use Rattle.std.specs.Prelude.{Bool, ◌&&◌}
use Rattle.list_denotation.specs.Terms.{Term, Lit, Truth, Var, Param, Len, Neg, Not, Bin, And, Or, If}

-- each leaf of the expression passes the test
abbrev pub all_leaves : (Term → Bool) → Term → Bool
all_leaves test (Lit w) = test (Lit w)
all_leaves test (Truth b) = test (Truth b)
all_leaves test (Var k) = test (Var k)
all_leaves test (Param k) = test (Param k)
all_leaves test (Len k) = test (Len k)
all_leaves test (Neg a) = all_leaves test a
all_leaves test (Not a) = all_leaves test a
all_leaves test (Bin op a b) = all_leaves test a && all_leaves test b
all_leaves test (And a b) = all_leaves test a && all_leaves test b
all_leaves test (Or a b) = all_leaves test a && all_leaves test b
all_leaves test (If c a b) = all_leaves test c && (all_leaves test a && all_leaves test b)
