-- Plain copies of loop programs. Every definition speaks of these.
use Rattle.std.specs.Prelude.{ℕ, List}
use Rattle.list_denotation.specs.declared.input.InputKind.{InputKind}
use Rattle.loop_ir.specs.declared.syntax.WOp.{WOp}
use Rattle.loop_ir.specs.declared.syntax.Verdict.{Verdict}

-- an operand
pub data Operand : Type 0 where
  Const Var Len Int : ℕ → Operand
  Bin : WOp → Operand → Operand → Operand

-- a test of operands
pub data Test : Type 0 where
  Less Same : Operand → Operand → Test
  Both Either : Test → Test → Test
  Not : Test → Test

-- a statement, and statements in order
mutual
  pub data Statement : Type 0 where
    Set : ℕ → Operand → Statement
    Read : ℕ → ℕ → Operand → Statement
    If : Test → Block → Block → Statement
    Loop : Test → Block → Statement
    Emit : Operand → Statement
    EndRow : Statement
    Ret : Verdict → Statement

  pub data Block : Type 0 where
    Nil : Block
    Cons : Statement → Block → Block

-- a loop program
pub record Routine : Type 0 where
  pub params : List InputKind
  pub vars : ℕ
  pub body : Block

-- statements after statements
abbrev pub join : Block → Block → Block
join Nil more = more
join (Cons s ss) more = Cons s (join ss more)
