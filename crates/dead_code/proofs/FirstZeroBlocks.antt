-- Blocks without the statements that set a variable to 0 first: what they need, and their loops and statements.
use Rattle.std.proofs.Common.{◌≡◌, ◌≤◌, Bool, true, false, List, refl, sym, ap, ◌∙◌, arith, true≢false}
use Rattle.std.specs.Prelude.{if◌then◌else◌}
use Rattle.loop_ir.specs.Counts.{block_count, block_loops, block_nest}
use Rattle.loop_ir.specs.Statements.{Const, Var, Len, Int, Bin, Statement, Set, Read, If, Loop, Emit, EndRow, Ret, Block, Nil, Cons}
use Rattle.dead_code.specs.FirstZeros.{is_first_zero, marks_behind, unless_dropped, without_first_zeros}
use Rattle.dead_code.specs.Needs.{is_marked, needs_of, needs_of_block}

-- ---- what is dropped needs nothing

same_either : (b : Bool) (m : List Bool) → (if b then m else m) ≡ m
same_either true m = refl
same_either false m = refl

zero_needs : (marks : List Bool) (s : Statement) (m : List Bool) → is_first_zero marks s ≡ true → needs_of s m ≡ m
zero_needs marks (Set v (Const n)) m h = same_either (is_marked m v) m
zero_needs marks (Set v (Var u)) m h = absurd (true≢false (sym h))
zero_needs marks (Set v (Len a)) m h = absurd (true≢false (sym h))
zero_needs marks (Set v (Int k)) m h = absurd (true≢false (sym h))
zero_needs marks (Set v (Bin op a b)) m h = absurd (true≢false (sym h))
zero_needs marks (Read v a w) m h = absurd (true≢false (sym h))
zero_needs marks (If t a b) m h = absurd (true≢false (sym h))
zero_needs marks (Loop t body) m h = absurd (true≢false (sym h))
zero_needs marks (Emit w) m h = absurd (true≢false (sym h))
zero_needs marks EndRow m h = absurd (true≢false (sym h))
zero_needs marks (Ret v) m h = absurd (true≢false (sym h))

dropped_needs : (marks : List Bool) (s : Statement) (rest ss : Block) (m : List Bool) (b : Bool) → is_first_zero marks s ≡ b → needs_of_block rest m ≡ needs_of_block ss m → needs_of_block (unless_dropped b s rest) m ≡ needs_of s (needs_of_block ss m)
dropped_needs marks s rest ss m true is h = h ∙ sym (zero_needs marks s (needs_of_block ss m) is)
dropped_needs marks s rest ss m false is h = ap (needs_of s) h

pub first_needs : (marks : List Bool) (b : Block) (m : List Bool) → needs_of_block (without_first_zeros marks b) m ≡ needs_of_block b m
first_needs marks Nil m = refl
first_needs marks (Cons s ss) m =
    dropped_needs marks s _ ss m (is_first_zero marks s) refl (first_needs (marks_behind (is_first_zero marks s) s marks) ss m)

-- ---- loops, the most of them inside one another, and statements

zero_bare : (marks : List Bool) (s : Statement) → is_first_zero marks s ≡ true → (block_loops (Cons s Nil) ≡ 0) × (block_nest (Cons s Nil) ≡ 0)
zero_bare marks (Set v w) h = (refl, refl)
zero_bare marks (Read v a w) h = (refl, refl)
zero_bare marks (If t a b) h = absurd (true≢false (sym h))
zero_bare marks (Loop t body) h = absurd (true≢false (sym h))
zero_bare marks (Emit w) h = (refl, refl)
zero_bare marks EndRow h = (refl, refl)
zero_bare marks (Ret v) h = (refl, refl)

dropped_loops : (marks : List Bool) (s : Statement) (rest ss : Block) (b : Bool) → is_first_zero marks s ≡ b → block_loops rest ≡ block_loops ss → block_loops (unless_dropped b s rest) ≡ block_loops (Cons s ss)
dropped_loops marks s rest ss true is h = let e = (zero_bare marks s is).0 in omega (arith, e, h)
dropped_loops marks s rest ss false is h = omega (arith, h)

pub first_loops : (marks : List Bool) (b : Block) → block_loops (without_first_zeros marks b) ≡ block_loops b
first_loops marks Nil = refl
first_loops marks (Cons s ss) = dropped_loops marks s _ ss (is_first_zero marks s) refl (first_loops (marks_behind (is_first_zero marks s) s marks) ss)

dropped_nest : (marks : List Bool) (s : Statement) (rest ss : Block) (b : Bool) → is_first_zero marks s ≡ b → block_nest rest ≡ block_nest ss → block_nest (unless_dropped b s rest) ≡ block_nest (Cons s ss)
dropped_nest marks s rest ss true is h = let e = (zero_bare marks s is).1 in omega (arith, e, h)
dropped_nest marks s rest ss false is h = omega (arith, h)

pub first_nest : (marks : List Bool) (b : Block) → block_nest (without_first_zeros marks b) ≡ block_nest b
first_nest marks Nil = refl
first_nest marks (Cons s ss) = dropped_nest marks s _ ss (is_first_zero marks s) refl (first_nest (marks_behind (is_first_zero marks s) s marks) ss)

dropped_count : (s : Statement) (rest ss : Block) (b : Bool) → block_count rest ≤ block_count ss → block_count (unless_dropped b s rest) ≤ block_count (Cons s ss)
dropped_count s rest ss true h = omega (arith, h)
dropped_count s rest ss false h = omega (arith, h)

pub first_count : (marks : List Bool) (b : Block) → block_count (without_first_zeros marks b) ≤ block_count b
first_count marks Nil = omega arith
first_count marks (Cons s ss) = dropped_count s _ ss (is_first_zero marks s) (first_count (marks_behind (is_first_zero marks s) s marks) ss)
