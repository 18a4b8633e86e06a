-- Live statements have the loops of all, nested as they were, and no more statements.
use Rattle.std.proofs.Common.{◌≡◌, ℕ, ◌+◌, ◌≤◌, max, Bool, true, false, List, refl, arith}
use Rattle.loop_ir.specs.Counts.{block_count, block_loops, block_nest}
use Rattle.loop_ir.specs.Statements.{Test, Statement, Set, Read, If, Loop, Emit, EndRow, Ret, Block, Nil, Cons}
use Rattle.loop_ir.proofs.JoinedBlocks.{count_join, loops_join, nest_join}
use Rattle.dead_code.specs.Live.{renumbered_test, only_if, choice, live_statement, live}
use Rattle.dead_code.specs.Needs.{is_marked}

-- ---- loops

only_loops : (b : Bool) (s : Statement) → block_loops (Cons s Nil) ≡ 0 → block_loops (only_if b s) ≡ 0
only_loops true s h = h
only_loops false s h = refl

choice_loops : (t : Test) (a b : Block) → block_loops (choice t a b) ≡ block_loops a + block_loops b
choice_loops t Nil Nil = refl
choice_loops t Nil (Cons s b) = omega arith
choice_loops t (Cons s a) b = omega arith

module _ (m : List Bool) (numbers : List ℕ) where
  mutual
    one_loops : (s : Statement) → block_loops (live_statement m numbers s) ≡ block_loops (Cons s Nil)
    one_loops (Set v w) = only_loops (is_marked m v) _ refl
    one_loops (Read v a w) = only_loops (is_marked m v) _ refl
    one_loops (If t a b) = let e = live_loops a in let f = live_loops b in omega (arith, e, f, choice_loops (renumbered_test numbers t) (live m numbers a) (live m numbers b))
    one_loops (Loop t body) = let e = live_loops body in omega (arith, e)
    one_loops (Emit w) = refl
    one_loops EndRow = refl
    one_loops (Ret v) = refl

    pub live_loops : (b : Block) → block_loops (live m numbers b) ≡ block_loops b
    live_loops Nil = refl
    live_loops (Cons s ss) = let e = one_loops s in let f = live_loops ss in omega (arith, e, f, loops_join (live_statement m numbers s) (live m numbers ss))

-- ---- the most loops inside one another

only_nest : (b : Bool) (s : Statement) → block_nest (Cons s Nil) ≡ 0 → block_nest (only_if b s) ≡ 0
only_nest true s h = h
only_nest false s h = refl

choice_nest : (t : Test) (a b : Block) → block_nest (choice t a b) ≡ max (block_nest a) (block_nest b)
choice_nest t Nil Nil = refl
choice_nest t Nil (Cons s b) = omega arith
choice_nest t (Cons s a) b = omega arith

module _ (m : List Bool) (numbers : List ℕ) where
  mutual
    one_nest : (s : Statement) → block_nest (live_statement m numbers s) ≡ block_nest (Cons s Nil)
    one_nest (Set v w) = only_nest (is_marked m v) _ refl
    one_nest (Read v a w) = only_nest (is_marked m v) _ refl
    one_nest (If t a b) = let e = live_nest a in let f = live_nest b in omega (arith, e, f, choice_nest (renumbered_test numbers t) (live m numbers a) (live m numbers b))
    one_nest (Loop t body) = let e = live_nest body in omega (arith, e)
    one_nest (Emit w) = refl
    one_nest EndRow = refl
    one_nest (Ret v) = refl

    pub live_nest : (b : Block) → block_nest (live m numbers b) ≡ block_nest b
    live_nest Nil = refl
    live_nest (Cons s ss) = let e = one_nest s in let f = live_nest ss in omega (arith, e, f, nest_join (live_statement m numbers s) (live m numbers ss))

-- ---- statements

only_count : (b : Bool) (s : Statement) → block_count (Cons s Nil) ≡ 1 → block_count (only_if b s) ≤ 1
only_count true s h = omega (arith, h)
only_count false s h = omega arith

choice_count : (t : Test) (a b : Block) → block_count (choice t a b) ≤ block_count a + block_count b + 1
choice_count t Nil Nil = omega arith
choice_count t Nil (Cons s b) = omega arith
choice_count t (Cons s a) b = omega arith

module _ (m : List Bool) (numbers : List ℕ) where
  mutual
    one_count : (s : Statement) → block_count (live_statement m numbers s) ≤ block_count (Cons s Nil)
    one_count (Set v w) = only_count (is_marked m v) _ refl
    one_count (Read v a w) = only_count (is_marked m v) _ refl
    one_count (If t a b) = let e = live_count a in let f = live_count b in omega (arith, e, f, choice_count (renumbered_test numbers t) (live m numbers a) (live m numbers b))
    one_count (Loop t body) = let e = live_count body in omega (arith, e)
    one_count (Emit w) = omega arith
    one_count EndRow = omega arith
    one_count (Ret v) = omega arith

    pub live_count : (b : Block) → block_count (live m numbers b) ≤ block_count b
    live_count Nil = omega arith
    live_count (Cons s ss) = let e = one_count s in let f = live_count ss in omega (arith, e, f, count_join (live_statement m numbers s) (live m numbers ss))
