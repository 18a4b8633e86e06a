-- The leaves of what an expression is lowered to, which are its constants and its names: each passes a test.
use Rattle.std.specs.Prelude.{ℕ, Bool, IsTrue}
use Rattle.strm_num.specs.Words.{IsWord}
use Rattle.loop_ir.specs.Leaves.{operand_leaves, test_leaves, block_leaves}
use Rattle.loop_ir.specs.Statements.{Operand, Const, Var, Test, Block, join}
use Rattle.expr_forms.specs.Forms.{Form, AWord, ATest, InTarget, Lowered, Condition}

module _ (passes : Operand → Bool) where
  abbrev pub InVariable : ℕ → Type 0
  InVariable v = IsTrue (passes (Var v))

  abbrev pub InOperand : Operand → Type 0
  InOperand w = IsTrue (operand_leaves passes w)

  abbrev pub InTest : Test → Type 0
  InTest t = IsTrue (test_leaves passes t)

  abbrev pub InBlock : Block → Type 0
  InBlock b = IsTrue (block_leaves passes b)

  abbrev pub InForm : Form → Type 0
  InForm (AWord w) = InOperand w
  InForm (ATest t) = InTest t
  InForm InTarget = Unit {0}

  -- of the statements and of the form of an expression, or of the test of a condition
  pub record InLowered (l : Lowered) : Type 0 where
    pub block : InBlock l.block
    pub form : InForm l.form

  pub record InCondition (c : Condition) : Type 0 where
    pub block : InBlock c.block
    pub test : InTest c.test

  -- each word constant passes, and statements after statements do where both do
  pub record IsLeafTest : Type 0 where
    pub constants : (c : ℕ) → IsWord c → IsTrue (passes (Const c))
    pub joins : (a b : Block) → InBlock a → InBlock b → InBlock (join a b)
