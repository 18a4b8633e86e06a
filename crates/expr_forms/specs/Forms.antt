-- The statements of an expression, from those of its parts. They put its value into a target variable, or return 1 where
-- it traps. An expression that needs no statements is a word or a test of the C text as it stands.
use Rattle.std.specs.Prelude.{ℕ, zero, suc, Bool, true, false, ◌&&◌, if◌then◌else◌, Option, Some}
use Rattle.strm_num.specs.Magnitudes.{magnitude_of}
use Rattle.list_denotation.specs.declared.expr.BinOp.{BinOp}
use Rattle.list_denotation.specs.declared.expr.BinOp.TheVariants as sign
use Rattle.list_denotation.specs.Terms.{Term}
use Rattle.list_denotation.specs.Values.{choice}
use Rattle.loop_ir.specs.declared.syntax.WOp.{WOp}
use Rattle.loop_ir.specs.declared.syntax.WOp.TheVariants as op
use Rattle.loop_ir.specs.Statements.{Operand, Const, Var, Bin, Test, Same, Not, If, Block, Nil, Cons, join}
use Rattle.expr_phrases.specs.Phrases.{Division, Quotient, Remainder, set, minus, set_truth, opposite, comparison_test, by_divisor, Connective, Conjunction, Disjunction, connected_test, connected_block, divides_modulus, magnitude_block, multiple_test}
use Rattle.expr_constants.specs.Constants.{by_constant, constant_of}
use Rattle.expr_constants.specs.Simple.{is_simple}

-- where the value of an expression is to be found once its statements have run
pub data Form : Type 0 where
  -- it is this word of the names that the expression reads
  AWord : Operand → Form
  -- it is the truth of this test
  ATest : Test → Form
  -- it is in the target
  InTarget : Form

pub record Lowered : Type 0 where
  pub block : Block
  pub form : Form

-- a condition: its statements, and its test once they have run
pub record Condition : Type 0 where
  pub block : Block
  pub test : Test

abbrev pub is_word : Form → Bool
is_word (AWord w) = true
is_word (ATest t) = false
is_word InTarget = false

-- ---- a value that is used

-- an operand: a word stays as it is, and a truth is put into the target
abbrev pub operand_rest : Form → ℕ → Block
operand_rest (AWord w) v = Nil
operand_rest (ATest t) v = set_truth v t
operand_rest InTarget v = Nil

abbrev pub operand_block : Lowered → ℕ → Block
operand_block l v = join l.block (operand_rest l.form v)

abbrev pub operand_in : Form → ℕ → Operand
operand_in (AWord w) v = w
operand_in (ATest t) v = Var v
operand_in InTarget v = Var v

-- whether a word is true. Of a constant other than 0 the test always holds
abbrev pub word_test : Operand → Test
word_test (Const (suc c)) = Same (Const 0) (Const 0)
word_test w = Not (Same w (Const 0))

-- a condition
abbrev pub condition_in : Form → ℕ → Test
condition_in (AWord w) v = word_test w
condition_in (ATest t) v = t
condition_in InTarget v = Not (Same (Var v) (Const 0))

abbrev pub condition_of : Lowered → ℕ → Condition
condition_of l v = record { block = l.block; test = condition_in l.form v }

-- the value in the target
abbrev pub target_rest : Form → ℕ → Block
target_rest (AWord w) v = set v w
target_rest (ATest t) v = set_truth v t
target_rest InTarget v = Nil

abbrev pub into : Lowered → ℕ → Block
into l v = join l.block (target_rest l.form v)

-- ---- the forms of expressions, from those of their parts

abbrev pub as_word : Operand → Lowered
as_word w = record { block = Nil; form = AWord w }

abbrev pub in_target : Block → Lowered
in_target b = record { block = b; form = InTarget }

abbrev pub lowered_minus : Lowered → ℕ → Lowered
lowered_minus a v =
    if is_word a.form then as_word (minus (operand_in a.form v))
    else in_target (join (operand_block a v) (set v (minus (Var v))))

abbrev pub lowered_not : Condition → Lowered
lowered_not c = record { block = c.block; form = ATest (opposite c.test) }

-- the left operand is kept in the target v, and the right one in the temporary t
abbrev pub lowered_arithmetic : WOp → Lowered → Lowered → ℕ → ℕ → Lowered
lowered_arithmetic o a b v t =
    if is_word a.form && is_word b.form then as_word (Bin o (operand_in a.form v) (operand_in b.form t))
    else in_target (join (operand_block a v) (join (operand_block b t) (set v (Bin o (operand_in a.form v) (operand_in b.form t)))))

abbrev pub lowered_comparison : BinOp → Lowered → Lowered → ℕ → ℕ → Lowered
lowered_comparison o a b v t = record {
  block = join (operand_block a v) (operand_block b t);
  form = ATest (comparison_test o (operand_in a.form v) (operand_in b.form t));
}

-- an operand of a division, which is looked at more than once
abbrev pub division_operand_block : Term → Lowered → ℕ → Block
division_operand_block e l v = if is_simple e then Nil else into l v

abbrev pub division_operand_in : Term → Form → ℕ → Operand
division_operand_in e f v = if is_simple e then operand_in f v else Var v

abbrev pub lowered_division : Division → Term → Term → Lowered → Lowered → ℕ → ℕ → Lowered
lowered_division d x y a b v t =
    in_target
    (join (division_operand_block x a v)
    (join (division_operand_block y b t)
    (by_divisor d (constant_of x) (constant_of y) (division_operand_in x a.form v) (division_operand_in y b.form t) v)))

abbrev pub lowered_operation : BinOp → Term → Term → Lowered → Lowered → ℕ → ℕ → Lowered
lowered_operation sign.Add x y a b v t = lowered_arithmetic op.Add a b v t
lowered_operation sign.Sub x y a b v t = lowered_arithmetic op.Sub a b v t
lowered_operation sign.Mul x y a b v t = lowered_arithmetic op.Mul a b v t
lowered_operation sign.Div x y a b v t = lowered_division Quotient x y a b v t
lowered_operation sign.Rem x y a b v t = lowered_division Remainder x y a b v t
lowered_operation sign.Eq x y a b v t = lowered_comparison sign.Eq a b v t
lowered_operation sign.Ne x y a b v t = lowered_comparison sign.Ne a b v t
lowered_operation sign.Lt x y a b v t = lowered_comparison sign.Lt a b v t
lowered_operation sign.Le x y a b v t = lowered_comparison sign.Le a b v t
lowered_operation sign.Gt x y a b v t = lowered_comparison sign.Gt a b v t
lowered_operation sign.Ge x y a b v t = lowered_comparison sign.Ge a b v t

-- whether x is a multiple of a constant: of its magnitude, which is put into v where the constant is no power of two
abbrev pub lowered_multiple : BinOp → Term → ℕ → Lowered → ℕ → Lowered
lowered_multiple o x c l v = record {
  block =
      if divides_modulus (magnitude_of c) then operand_block l v
      else join (division_operand_block x l v) (magnitude_block (division_operand_in x l.form v) v);
  form = ATest (multiple_test o (if divides_modulus (magnitude_of c) then operand_in l.form v else Var v) (magnitude_of c));
}

abbrev pub is_empty : Block → Bool
is_empty Nil = true
is_empty (Cons s ss) = false

-- what `&&` and `||` have behind the statements of the first part, whose test is t
abbrev pub connective_rest : Connective → Test → Condition → ℕ → Block
connective_rest o t b v = if is_empty b.block then Nil else connected_block o t (join b.block (set_truth v b.test)) v

abbrev pub connective_form : Connective → Test → Condition → Form
connective_form o t b = if is_empty b.block then ATest (connected_test o t b.test) else InTarget

abbrev pub lowered_connective : Connective → Condition → Condition → ℕ → Lowered
lowered_connective o a b v = record { block = join a.block (connective_rest o a.test b v); form = connective_form o a.test b }

-- of an expression that isn't constant, where one part is: the other part decides
abbrev pub lowered_truth : Condition → Lowered
lowered_truth c = record { block = c.block; form = ATest c.test }

-- whether a second part that is constant leaves it to the first one
abbrev pub is_neutral : Connective → Option ℕ → Bool
is_neutral Conjunction (Some (suc c)) = true
is_neutral Disjunction (Some zero) = true
is_neutral _ _ = false

-- of constants, those of the first and the second part
abbrev pub lowered_connected : Connective → Option ℕ → Option ℕ → Condition → Condition → ℕ → Lowered
lowered_connected o first second a b v =
    by_constant first (λ c. lowered_truth b) (if is_neutral o second then lowered_truth a else lowered_connective o a b v)

-- the branches put their values into v
abbrev pub lowered_choice : Condition → Block → Block → Lowered
lowered_choice c a b = in_target (join c.block (Cons (If c.test a b) Nil))

-- a condition that is constant chooses here
abbrev pub lowered_chosen : Option ℕ → Condition → Lowered → Lowered → ℕ → Lowered
lowered_chosen condition c a b v = by_constant condition (λ x. choice x b a) (lowered_choice c (into a v) (into b v))
