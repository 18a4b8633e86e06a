-- Statements that always end the run, and blocks without what stands behind these.
use Rattle.std.specs.Prelude.{Bool, true, false, ◌&&◌, ◌||◌, ◌==◌, if◌then◌else◌}
use Rattle.loop_ir.specs.Counts.{block_loops}
use Rattle.loop_ir.specs.Statements.{Statement, Set, Read, If, Loop, Emit, EndRow, Ret, Block, Nil, Cons}

abbrev mutual
  -- whether the run never goes on behind the statement
  pub statement_ends : Statement → Bool
  statement_ends (Set v w) = false
  statement_ends (Read v a w) = false
  statement_ends (If t a b) = block_ends a && block_ends b
  statement_ends (Loop t body) = false
  statement_ends (Emit w) = false
  statement_ends EndRow = false
  statement_ends (Ret v) = true

  pub block_ends : Block → Bool
  block_ends Nil = false
  block_ends (Cons s ss) = statement_ends s || block_ends ss

-- what is left of statements behind one that ends the run, or that doesn't: no loop is dropped
abbrev pub behind : Bool → Block → Block
behind ends rest = if ends && (block_loops rest == 0) then Nil else rest

abbrev mutual
  pub reached_statement : Statement → Statement
  reached_statement (Set v w) = Set v w
  reached_statement (Read v a w) = Read v a w
  reached_statement (If t a b) = If t (reached a) (reached b)
  reached_statement (Loop t body) = Loop t (reached body)
  reached_statement (Emit w) = Emit w
  reached_statement EndRow = EndRow
  reached_statement (Ret v) = Ret v

  -- the statements without those that are never reached
  pub reached : Block → Block
  reached Nil = Nil
  reached (Cons s ss) = Cons (reached_statement s) (behind (statement_ends s) (reached ss))
