-- The cost of an expression, by its nodes.
use Rattle.std.proofs.Common.{◌+◌, ◌*◌, ◌≤◌, true, false, ◌&&◌, arith}
use Rattle.std.specs.Prelude.{IsTrue, if◌then◌else◌}
use Rattle.strm_num.proofs.Truths.{both_true}
use Rattle.list_denotation.specs.declared.expr.BinOp.{BinOp}
use Rattle.list_denotation.specs.declared.expr.BinOp.TheVariants.{Div, Rem}
use Rattle.list_denotation.specs.Costs.{operation_cost, cost}
use Rattle.list_denotation.specs.Counts.{term_nodes}
use Rattle.list_denotation.specs.Terms.{Term, Neg, Not, Bin, And, Or, If}
use Rattle.list_denotation.specs.Typing.{is_division, is_undivided}

-- an operation costs as much as a division, or less
any_within : (o : BinOp) → operation_cost o ≤ 9
any_within Div = omega arith
any_within Rem = omega arith
any_within _ = omega arith

-- and one that doesn't divide as much as a comparison
whole_within : (o : BinOp) → IsTrue (if is_division o then false else true) → operation_cost o ≤ 3
whole_within Div h = absurd cc
whole_within Rem h = absurd cc
whole_within _ h = omega arith

pub cost_within : (e : Term) → cost e + 4 ≤ 5 * term_nodes e
cost_within (Neg a) = omega (arith, cost_within a)
cost_within (Not a) = omega (arith, cost_within a)
cost_within (Bin o a b) = omega (arith, cost_within a, cost_within b, any_within o)
cost_within (And a b) = omega (arith, cost_within a, cost_within b)
cost_within (Or a b) = omega (arith, cost_within a, cost_within b)
cost_within (If c a b) = omega (arith, cost_within c, cost_within a, cost_within b)
cost_within _ = omega arith

pub undivided_within : (e : Term) → IsTrue (is_undivided e) → cost e + 2 ≤ 3 * term_nodes e
undivided_within (Neg a) h = omega (arith, undivided_within a h)
undivided_within (Not a) h = omega (arith, undivided_within a h)
undivided_within (Bin o a b) h =
    let p = both_true (if is_division o then false else true) (is_undivided a && is_undivided b) h in
    let q = both_true (is_undivided a) (is_undivided b) p.1 in
    omega (arith, undivided_within a q.0, undivided_within b q.1, whole_within o p.0)
undivided_within (And a b) h =
    let q = both_true (is_undivided a) (is_undivided b) h in omega (arith, undivided_within a q.0, undivided_within b q.1)
undivided_within (Or a b) h =
    let q = both_true (is_undivided a) (is_undivided b) h in omega (arith, undivided_within a q.0, undivided_within b q.1)
undivided_within (If c a b) h =
    let p = both_true (is_undivided c) (is_undivided a && is_undivided b) h in
    let q = both_true (is_undivided a) (is_undivided b) p.1 in
    omega (arith, undivided_within c p.0, undivided_within a q.0, undivided_within b q.1)
undivided_within _ h = omega arith
