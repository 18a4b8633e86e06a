-- The plain copies of the code's loop programs.
use Rattle.std.specs.Prelude.{ℕ, List, [], ◌∷◌, map}
use Rattle.list_denotation.specs.declared.input.InputKind.{InputKind}
use Rattle.loop_ir.specs.declared.syntax.W.{W}
use Rattle.loop_ir.specs.declared.syntax.W.TheVariants as w
use Rattle.loop_ir.specs.declared.syntax.T.{T}
use Rattle.loop_ir.specs.declared.syntax.T.TheVariants as t
use Rattle.loop_ir.specs.declared.syntax.Stmt.{Stmt}
use Rattle.loop_ir.specs.declared.syntax.Stmt.TheOpen.{Stmt-F}
use Rattle.loop_ir.specs.declared.syntax.Stmt.TheFolds.{fold-Stmt}
use Rattle.loop_ir.specs.Statements.{Operand, Const, Var, Len, Int, Bin, Test, Less, Same, Both, Either, Not, Statement, Set, Read, If, Loop, Emit, EndRow, Ret, Block, Nil, Cons, Routine}

abbrev pub operand_of : W → Operand
operand_of (w.Const n) = Const n
operand_of (w.Var v) = Var v
operand_of (w.Len a) = Len a
operand_of (w.Int k) = Int k
operand_of (w.Bin' op p a q b) = Bin op (operand_of a) (operand_of b)

abbrev pub test_of : T → Test
test_of (t.Less a b) = Less (operand_of a) (operand_of b)
test_of (t.Same a b) = Same (operand_of a) (operand_of b)
test_of (t.Both' p a q b) = Both (test_of a) (test_of b)
test_of (t.Either' p a q b) = Either (test_of a) (test_of b)
test_of (t.Not' p a) = Not (test_of a)

-- a list of plain statements as a block
abbrev pub block_from : List Statement → Block
block_from [] = Nil
block_from (s ∷ ss) = Cons s (block_from ss)

-- a statement whose parts are plain already
abbrev pub statement_step : Stmt-F Statement → Statement
statement_step (Stmt-F.Set v w) = Set v (operand_of w)
statement_step (Stmt-F.Read v a w) = Read v a (operand_of w)
statement_step (Stmt-F.If t a b) = If (test_of t) (block_from a) (block_from b)
statement_step (Stmt-F.Loop t body) = Loop (test_of t) (block_from body)
statement_step (Stmt-F.Emit w) = Emit (operand_of w)
statement_step Stmt-F.EndRow = EndRow
statement_step (Stmt-F.Ret v) = Ret v

abbrev pub statement_of : Stmt → Statement
statement_of = fold-Stmt Statement statement_step

abbrev pub block_of : List Stmt → Block
block_of ss = block_from (map statement_of ss)

-- a loop program of these parts
abbrev pub routine_from : List InputKind → ℕ → List Stmt → Routine
routine_from params vars body = record { params = params; vars = vars; body = block_of body }
