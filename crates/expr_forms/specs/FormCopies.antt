-- The plain copies of the code's forms, and what an operand becomes once it is kept.
use Rattle.std.specs.Prelude.{ℕ, if◌then◌else◌}
use Rattle.list_denotation.specs.declared.expr.BinOp.{BinOp}
use Rattle.list_denotation.specs.Terms.{Term}
use Rattle.list_denotation.specs.Typing.{is_division}
use Rattle.loop_ir.specs.Statements.{Test, Block, Nil}
use Rattle.loop_ir.specs.StatementCopies.{operand_of, test_of}
use Rattle.expr_forms.specs.declared.forms.Form as code
use Rattle.expr_forms.specs.declared.forms.Form.TheVariants as form
use Rattle.expr_constants.specs.Simple.{is_simple}
use Rattle.expr_forms.specs.Forms.{Form, AWord, ATest, InTarget, Lowered, Condition, operand_rest, target_rest}

abbrev pub form_of : code.Form → Form
form_of (form.Word w) = AWord (operand_of w.value)
form_of (form.Test t) = ATest (test_of t.value)
form_of form.InTarget = InTarget

-- a form after these statements
abbrev pub after_statements : Block → Form → Lowered
after_statements b f = record { block = b; form = f }

-- a form whose statements have run already
abbrev pub without_statements : Form → Lowered
without_statements f = after_statements Nil f

-- a test after these statements
abbrev pub test_after : Block → Test → Condition
test_after b t = record { block = b; test = t }

-- a word stays as it is, and all else is in the target
abbrev pub as_operand : Form → Form
as_operand (AWord w) = AWord w
as_operand (ATest t) = InTarget
as_operand InTarget = InTarget

-- the form of a left operand while the right one is computed
abbrev pub kept_form : BinOp → Term → Form → Form
kept_form o e f = if is_division o then (if is_simple e then f else InTarget) else as_operand f

-- the statements that keep it
abbrev pub kept_rest : BinOp → Term → Form → ℕ → Block
kept_rest o e f v = if is_division o then (if is_simple e then Nil else target_rest f v) else operand_rest f v
