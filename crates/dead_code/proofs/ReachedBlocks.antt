-- Blocks without what is never reached: their loops, how they are nested, and how many statements there are.
use Rattle.std.proofs.Common.{◌≡◌, ◌≤◌, Bool, true, false, refl, sym, ap, ◌∙◌, arith}
use Rattle.std.specs.Prelude.{◌&&◌, ◌==◌, if◌then◌else◌}
use Rattle.std.proofs.lemmas.Bool.{eqb-true}
use Rattle.loop_ir.specs.Counts.{block_count, block_loops, block_nest}
use Rattle.loop_ir.specs.Statements.{Statement, Set, Read, If, Loop, Emit, EndRow, Ret, Block, Nil, Cons}
use Rattle.dead_code.specs.Ends.{statement_ends, behind, reached_statement, reached}

-- what is dropped behind a statement has no loop
no_loops : (b : Block) → (block_loops b == 0) ≡ true → block_loops b ≡ 0
no_loops b h = eqb-true (block_loops b) 0 h

-- ---- loops

behind_loops : (ends : Bool) (b : Block) → block_loops (behind ends b) ≡ block_loops b
behind_loops false b = refl
behind_loops true b = by_test (block_loops b == 0) refl
  where
    by_test : (none : Bool) → (block_loops b == 0) ≡ none → block_loops (if none then Nil else b) ≡ block_loops b
    by_test true h = sym (no_loops b h)
    by_test false h = refl

mutual
  one_loops : (s : Statement) → block_loops (Cons (reached_statement s) Nil) ≡ block_loops (Cons s Nil)
  one_loops (Set v w) = refl
  one_loops (Read v a w) = refl
  one_loops (If t a b) = let e = reached_loops a in let f = reached_loops b in omega (arith, e, f)
  one_loops (Loop t body) = let e = reached_loops body in omega (arith, e)
  one_loops (Emit w) = refl
  one_loops EndRow = refl
  one_loops (Ret v) = refl

  pub reached_loops : (b : Block) → block_loops (reached b) ≡ block_loops b
  reached_loops Nil = refl
  reached_loops (Cons s ss) = let e = one_loops s in let f = reached_loops ss in omega (arith, e, f, behind_loops (statement_ends s) (reached ss))

-- ---- the most loops inside one another: none are where there is no loop

no_nest : (b : Block) → block_loops b ≡ 0 → block_nest b ≡ 0
no_nest Nil h = refl
no_nest (Cons (Set v w) ss) h = let e = no_nest ss (omega (arith, h)) in omega (arith, e)
no_nest (Cons (Read v a w) ss) h = let e = no_nest ss (omega (arith, h)) in omega (arith, e)
no_nest (Cons (If t a b) ss) h =
    let e = no_nest ss (omega (arith, h)) in
    let f = no_nest a (omega (arith, h)) in
    let g = no_nest b (omega (arith, h)) in
    omega (arith, e, f, g)
no_nest (Cons (Loop t body) ss) h = absurd (omega (arith, h))
no_nest (Cons (Emit w) ss) h = let e = no_nest ss (omega (arith, h)) in omega (arith, e)
no_nest (Cons EndRow ss) h = let e = no_nest ss (omega (arith, h)) in omega (arith, e)
no_nest (Cons (Ret v) ss) h = let e = no_nest ss (omega (arith, h)) in omega (arith, e)

behind_nest : (ends : Bool) (b : Block) → block_nest (behind ends b) ≡ block_nest b
behind_nest false b = refl
behind_nest true b = by_test (block_loops b == 0) refl
  where
    by_test : (none : Bool) → (block_loops b == 0) ≡ none → block_nest (if none then Nil else b) ≡ block_nest b
    by_test true h = sym (no_nest b (no_loops b h))
    by_test false h = refl

mutual
  one_nest : (s : Statement) → block_nest (Cons (reached_statement s) Nil) ≡ block_nest (Cons s Nil)
  one_nest (Set v w) = refl
  one_nest (Read v a w) = refl
  one_nest (If t a b) = let e = reached_nest a in let f = reached_nest b in omega (arith, e, f)
  one_nest (Loop t body) = let e = reached_nest body in omega (arith, e)
  one_nest (Emit w) = refl
  one_nest EndRow = refl
  one_nest (Ret v) = refl

  pub reached_nest : (b : Block) → block_nest (reached b) ≡ block_nest b
  reached_nest Nil = refl
  reached_nest (Cons s ss) = let e = one_nest s in let f = reached_nest ss in omega (arith, e, f, behind_nest (statement_ends s) (reached ss))

-- ---- statements

behind_count : (ends : Bool) (b : Block) → block_count (behind ends b) ≤ block_count b
behind_count false b = omega arith
behind_count true b = by_test (block_loops b == 0)
  where
    by_test : (none : Bool) → block_count (if none then Nil else b) ≤ block_count b
    by_test true = omega arith
    by_test false = omega arith

mutual
  one_count : (s : Statement) → block_count (Cons (reached_statement s) Nil) ≤ block_count (Cons s Nil)
  one_count (Set v w) = omega arith
  one_count (Read v a w) = omega arith
  one_count (If t a b) = let e = reached_count a in let f = reached_count b in omega (arith, e, f)
  one_count (Loop t body) = let e = reached_count body in omega (arith, e)
  one_count (Emit w) = omega arith
  one_count EndRow = omega arith
  one_count (Ret v) = omega arith

  pub reached_count : (b : Block) → block_count (reached b) ≤ block_count b
  reached_count Nil = omega arith
  reached_count (Cons s ss) = let e = one_count s in let f = reached_count ss in omega (arith, e, f, behind_count (statement_ends s) (reached ss))

-- ---- what stands behind a statement that goes on, or has a loop in it; and what doesn't

pub behind_kept : (ends : Bool) (b : Block) → ends && (block_loops b == 0) ≡ false → behind ends (reached b) ≡ reached b
behind_kept ends b h = ap (λ z. if z then Nil else reached b) (ap (λ n. ends && (n == 0)) (reached_loops b) ∙ h)

pub behind_dropped : (ends : Bool) (b : Block) → ends ≡ true → (block_loops b == 0) ≡ true → behind ends (reached b) ≡ Nil
behind_dropped ends b h none =
    ap (λ z. if z then Nil else reached b) (ap (λ z. z && (block_loops (reached b) == 0)) h ∙ ap (λ n. true && (n == 0)) (reached_loops b) ∙ none)
