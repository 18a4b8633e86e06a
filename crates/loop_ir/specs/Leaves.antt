-- The leaves of statements: the constants and the names in them, a variable that is set among these.
use Rattle.std.specs.Prelude.{Bool, true, ◌&&◌}
use Rattle.loop_ir.specs.Statements.{Operand, Const, Var, Len, Int, Bin, Test, Less, Same, Both, Either, Not, Statement, Set, Read, If, Loop, Emit, EndRow, Ret, Block, Nil, Cons}

-- each leaf passes the test
module _ (test : Operand → Bool) where
  abbrev pub operand_leaves : Operand → Bool
  operand_leaves (Const n) = test (Const n)
  operand_leaves (Var v) = test (Var v)
  operand_leaves (Len a) = test (Len a)
  operand_leaves (Int k) = test (Int k)
  operand_leaves (Bin op a b) = operand_leaves a && operand_leaves b

  abbrev pub test_leaves : Test → Bool
  test_leaves (Less a b) = operand_leaves a && operand_leaves b
  test_leaves (Same a b) = operand_leaves a && operand_leaves b
  test_leaves (Both a b) = test_leaves a && test_leaves b
  test_leaves (Either a b) = test_leaves a && test_leaves b
  test_leaves (Not a) = test_leaves a

  abbrev mutual
    pub statement_leaves : Statement → Bool
    statement_leaves (Set v w) = test (Var v) && operand_leaves w
    statement_leaves (Read v a w) = test (Var v) && (test (Len a) && operand_leaves w)
    statement_leaves (If t a b) = test_leaves t && (block_leaves a && block_leaves b)
    statement_leaves (Loop t body) = test_leaves t && block_leaves body
    statement_leaves (Emit w) = operand_leaves w
    statement_leaves EndRow = true
    statement_leaves (Ret v) = true

    pub block_leaves : Block → Bool
    block_leaves Nil = true
    block_leaves (Cons s ss) = statement_leaves s && block_leaves ss
