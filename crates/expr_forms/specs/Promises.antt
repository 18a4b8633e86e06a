-- What is promised of the definitions. Each statement has one name, which its law and those who stand on it cite.
use Rattle.std.specs.Prelude.{◌≡◌, ℕ, Bool, false, IsTrue}
use Rattle.strm_num.specs.Words.{IsWord}
use Rattle.list_denotation.specs.declared.expr.BinOp.{BinOp}
use Rattle.list_denotation.specs.Literals.{has_words}
use Rattle.list_denotation.specs.Terms.{Term}
use Rattle.list_denotation.specs.Typing.{is_division}
use Rattle.loop_ir.specs.Statements.{Operand, Block}
use Rattle.expr_phrases.specs.Phrases.{Connective}
use Rattle.expr_constants.specs.Simple.{is_simple}
use Rattle.expr_forms.specs.FormLeaves.{InVariable, InOperand, InBlock, InLowered, InCondition, IsLeafTest}
use Rattle.expr_forms.specs.Forms.{Lowered, Condition, condition_of, is_word, operand_block, operand_in, into, lowered_minus, lowered_not, lowered_operation, lowered_multiple, lowered_connective, lowered_choice}

-- The constants and the names of what an expression is lowered to are those of its parts, word
-- constants, and the variables of what is no word: what a test of leaves says of them all, it says of
-- the whole.
abbrev pub MinusHasLeavesOfItsPart : Type 0
MinusHasLeavesOfItsPart =
    (passes : Operand → Bool) (a : Lowered) (v : ℕ)
    → IsLeafTest passes → InLowered passes a → (is_word a.form ≡ false → InVariable passes v)
    → InLowered passes (lowered_minus a v)

abbrev pub OppositeHasLeavesOfItsPart : Type 0
OppositeHasLeavesOfItsPart =
    (passes : Operand → Bool) (a : Condition)
    → IsLeafTest passes → InCondition passes a
    → InLowered passes (lowered_not a)

abbrev pub ConditionHasLeavesOfItsForm : Type 0
ConditionHasLeavesOfItsForm =
    (passes : Operand → Bool) (l : Lowered) (v : ℕ)
    → IsLeafTest passes → InLowered passes l → InVariable passes v
    → InCondition passes (condition_of l v)

abbrev pub ValueHasLeavesOfItsForm : Type 0
ValueHasLeavesOfItsForm =
    (passes : Operand → Bool) (l : Lowered) (v : ℕ)
    → IsLeafTest passes → InLowered passes l → InVariable passes v
    → InBlock passes (into l v)

abbrev pub OperandStatementsHaveLeavesOfTheirForm : Type 0
OperandStatementsHaveLeavesOfTheirForm =
    (passes : Operand → Bool) (l : Lowered) (v : ℕ)
    → IsLeafTest passes → InLowered passes l → InVariable passes v
    → InBlock passes (operand_block l v)

abbrev pub OperandWordHasLeavesOfItsForm : Type 0
OperandWordHasLeavesOfItsForm =
    (passes : Operand → Bool) (l : Lowered) (v : ℕ)
    → IsLeafTest passes → InLowered passes l → InVariable passes v
    → InOperand passes (operand_in l.form v)

abbrev pub OperationHasLeavesOfItsParts : Type 0
OperationHasLeavesOfItsParts =
    (passes : Operand → Bool) (o : BinOp) (x y : Term) (a b : Lowered) (v t : ℕ)
    → IsLeafTest passes → IsTrue (has_words x) → IsTrue (has_words y) → InLowered passes a
    → InLowered passes b
    → (is_word (lowered_operation o x y a b v t).form ≡ false → InVariable passes v)
    → (is_word b.form ≡ false → InVariable passes t)
    → (IsTrue (is_division o) → is_simple y ≡ false → InVariable passes t)
    → InLowered passes (lowered_operation o x y a b v t)

abbrev pub MultipleHasLeavesOfItsParts : Type 0
MultipleHasLeavesOfItsParts =
    (passes : Operand → Bool) (o : BinOp) (x : Term) (c : ℕ) (l : Lowered) (v : ℕ)
    → IsLeafTest passes → IsWord c → InLowered passes l → InVariable passes v
    → InLowered passes (lowered_multiple o x c l v)

abbrev pub ConnectiveHasLeavesOfItsParts : Type 0
ConnectiveHasLeavesOfItsParts =
    (passes : Operand → Bool) (o : Connective) (a b : Condition) (v : ℕ)
    → IsLeafTest passes → InCondition passes a → InCondition passes b → InVariable passes v
    → InLowered passes (lowered_connective o a b v)

abbrev pub ChoiceHasLeavesOfItsParts : Type 0
ChoiceHasLeavesOfItsParts =
    (passes : Operand → Bool) (a : Condition) (b m : Block)
    → IsLeafTest passes → InCondition passes a → InBlock passes b → InBlock passes m
    → InLowered passes (lowered_choice a b m)
