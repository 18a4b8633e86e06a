-- Statements at the front of the bodies of loops.
use Rattle.std.proofs.Common.{◌≡◌, ℕ, ◌+◌, refl, sym, ap, ◌∙◌, subst, arith}
use Rattle.loop_ir.specs.declared.counts.Measure.TheVariants.{Loops}
use Rattle.loop_ir.specs.Statements.{Statement, Set, Read, If, Loop, Emit, EndRow, Ret, Test, Block, Nil, Cons, join}
use Rattle.loop_ir.specs.Counts.{statement_measure, block_loops}
use Rattle.loop_ir.specs.Marks.{fronted_statement, fronted_block}

both_blocks : (t : Test) (a a' b b' : Block) → a ≡ a' → b ≡ b' → If t a b ≡ If t a' b'
both_blocks t a a' b b' h k = ap (λ x. If t x b) h ∙ ap (λ x. If t a' x) k

both_cons : (s s' : Statement) (b b' : Block) → s ≡ s' → b ≡ b' → Cons s b ≡ Cons s' b'
both_cons s s' b b' h k = ap (λ x. Cons x b) h ∙ ap (λ x. Cons s' x) k

module _ (front : ℕ → Block) where
  mutual
    one_bare : (k : ℕ) (s : Statement) → statement_measure Loops s ≡ 0 → fronted_statement front k s ≡ s
    one_bare k (Set v w) h = refl
    one_bare k (Read v a w) h = refl
    one_bare k (If t a b) h =
        both_blocks t (fronted_block front k a) a (fronted_block front (k + block_loops a) b) b (fronted_bare k a (omega (arith, h))) (fronted_bare (k + block_loops a) b (omega (arith, h)))
    one_bare k (Loop t body) h = absurd (omega (arith, h))
    one_bare k (Emit w) h = refl
    one_bare k EndRow h = refl
    one_bare k (Ret v) h = refl

    -- statements without a loop stay
    pub fronted_bare : (k : ℕ) (b : Block) → block_loops b ≡ 0 → fronted_block front k b ≡ b
    fronted_bare k Nil h = refl
    fronted_bare k (Cons s ss) h =
        both_cons (fronted_statement front k s) s (fronted_block front (k + statement_measure Loops s) ss) ss (one_bare k s (omega (arith, h))) (fronted_bare (k + statement_measure Loops s) ss (omega (arith, h)))

  -- statements after statements
  pub fronted_join : (k : ℕ) (a b : Block) → fronted_block front k (join a b) ≡ join (fronted_block front k a) (fronted_block front (k + block_loops a) b)
  fronted_join k Nil b = let e : k ≡ k + 0 = omega arith in ap (λ j. fronted_block front j b) e
  fronted_join k (Cons s a) b =
      let e : k + statement_measure Loops s + block_loops a ≡ k + (statement_measure Loops s + block_loops a) = omega arith in
      ap (λ x. Cons (fronted_statement front k s) x)
      (fronted_join (k + statement_measure Loops s) a b ∙ ap (λ j. join (fronted_block front (k + statement_measure Loops s) a) (fronted_block front j b)) e)

  pub behind_bare : (k : ℕ) (a b : Block) → block_loops a ≡ 0 → fronted_block front k (join a b) ≡ join a (fronted_block front k b)
  behind_bare k a b h =
      let e : k + block_loops a ≡ k = omega (arith, h) in
      fronted_join k a b ∙ ap (λ x. join x (fronted_block front (k + block_loops a) b)) (fronted_bare k a h) ∙ ap (λ j. join a (fronted_block front j b)) e

  pub before_bare : (k : ℕ) (a b : Block) → block_loops b ≡ 0 → fronted_block front k (join a b) ≡ join (fronted_block front k a) b
  before_bare k a b h = fronted_join k a b ∙ ap (λ x. join (fronted_block front k a) x) (fronted_bare (k + block_loops a) b h)

  -- a choice of which one branch holds no loop
  pub if_on : (k : ℕ) (t : Test) (a b : Block) → block_loops b ≡ 0 → fronted_block front k (Cons (If t a b) Nil) ≡ Cons (If t (fronted_block front k a) b) Nil
  if_on k t a b h = ap (λ x. Cons (If t (fronted_block front k a) x) Nil) (fronted_bare (k + block_loops a) b h)

  pub if_off : (k : ℕ) (t : Test) (a b : Block) → block_loops a ≡ 0 → fronted_block front k (Cons (If t a b) Nil) ≡ Cons (If t a (fronted_block front k b)) Nil
  if_off k t a b h =
      let e : k + block_loops a ≡ k = omega (arith, h) in
      ap (λ x. Cons (If t x (fronted_block front (k + block_loops a) b)) Nil) (fronted_bare k a h) ∙ ap (λ j. Cons (If t a (fronted_block front j b)) Nil) e
