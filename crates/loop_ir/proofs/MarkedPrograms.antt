-- A loop program with a marked loop is well formed where the program is, and has its loops.
use Rattle.std.proofs.Common.{◌≡◌, ℕ, ◌+◌, Bool, true, false, refl, ap, ◌∙◌, arith}
use Rattle.std.specs.Prelude.{◌&&◌}
use Rattle.loop_ir.specs.declared.counts.Measure.TheVariants.{Loops}
use Rattle.loop_ir.specs.Statements.{Operand, Statement, Set, Read, If, Loop, Emit, EndRow, Ret, Block, Nil, Cons, Routine, join}
use Rattle.loop_ir.specs.Leaves.{test_leaves, statement_leaves, block_leaves}
use Rattle.loop_ir.specs.Constants.{is_word_leaf}
use Rattle.loop_ir.specs.Counts.{statement_measure, block_loops}
use Rattle.loop_ir.specs.DeclaredNames.{declared_names, is_named_leaf}
use Rattle.loop_ir.specs.Marks.{fronted_statement, fronted_block, row_where, marked}
use Rattle.loop_ir.specs.WellFormed.{IsWellFormed}

module _ (here : ℕ → Bool) where
  abbrev front : ℕ → Block
  front = row_where here

  module _ (test : Operand → Bool) where
    front_leaves : (b : Bool) (k : ℕ) (body : Block) → here k ≡ b → block_leaves test (join (front k) body) ≡ block_leaves test body
    front_leaves true k body e = rw e refl
    front_leaves false k body e = rw e refl

    mutual
      one_leaves : (k : ℕ) (s : Statement) → statement_leaves test (fronted_statement front k s) ≡ statement_leaves test s
      one_leaves k (Set v w) = refl
      one_leaves k (Read v a w) = refl
      one_leaves k (If t a b) = rw (leaves_kept k a, leaves_kept (k + block_loops a) b) refl
      one_leaves k (Loop t body) = ap (λ x. test_leaves test t && x) (front_leaves (here k) k (fronted_block front (k + 1) body) refl ∙ leaves_kept (k + 1) body)
      one_leaves k (Emit w) = refl
      one_leaves k EndRow = refl
      one_leaves k (Ret v) = refl

      leaves_kept : (k : ℕ) (ss : Block) → block_leaves test (fronted_block front k ss) ≡ block_leaves test ss
      leaves_kept k Nil = refl
      leaves_kept k (Cons s ss) = rw (one_leaves k s, leaves_kept (k + statement_measure Loops s) ss) refl

  front_loops : (b : Bool) (k : ℕ) (body : Block) → here k ≡ b → block_loops (join (front k) body) ≡ block_loops body
  front_loops true k body e = rw e (omega arith)
  front_loops false k body e = rw e refl

  mutual
    one_loops : (k : ℕ) (s : Statement) → statement_measure Loops (fronted_statement front k s) ≡ statement_measure Loops s
    one_loops k (Set v w) = refl
    one_loops k (Read v a w) = refl
    one_loops k (If t a b) = let h = loops_kept k a in let l = loops_kept (k + block_loops a) b in omega (arith, h, l)
    one_loops k (Loop t body) = let h = front_loops (here k) k (fronted_block front (k + 1) body) refl in let l = loops_kept (k + 1) body in omega (arith, h, l)
    one_loops k (Emit w) = refl
    one_loops k EndRow = refl
    one_loops k (Ret v) = refl

    loops_kept : (k : ℕ) (ss : Block) → block_loops (fronted_block front k ss) ≡ block_loops ss
    loops_kept k Nil = refl
    loops_kept k (Cons s ss) = let h = one_loops k s in let l = loops_kept (k + statement_measure Loops s) ss in omega (arith, h, l)

pub marked_loops : (q : Routine) (k : ℕ) → block_loops (marked k q).body ≡ block_loops q.body
marked_loops q k = loops_kept _ 0 q.body

pub marked_well_formed : (q : Routine) (k : ℕ) → IsWellFormed q → IsWellFormed (marked k q)
marked_well_formed q k is = record {
  few = is.few;
  names = rw (leaves_kept _ (is_named_leaf (declared_names q.params q.vars)) 0 q.body) is.names;
  constants = rw (leaves_kept _ is_word_leaf 0 q.body) is.constants;
}
