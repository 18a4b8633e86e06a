-- The signs of operators: their operations, and the kinds of operands and results.
use Rattle.std.specs.Prelude.{Bool, true, false}
use Rattle.list_denotation.specs.declared.expr.BinOp.{BinOp}
use Rattle.list_denotation.specs.declared.expr.BinOp.TheVariants as op
use Rattle.list_denotation.specs.declared.kind.Kind.{Kind}
use Rattle.list_denotation.specs.declared.kind.Kind.TheVariants as kind
use Rattle.pipe_lexer.specs.declared.operator.BinOp.{BinOp as Sign}
use Rattle.pipe_lexer.specs.declared.operator.BinOp.TheVariants.{Add, Sub, Mul, Div, Rem, Eq, Ne, Lt, Le, Gt, Ge}

abbrev pub is_kind : Kind → Kind → Bool
is_kind kind.Int kind.Int = true
is_kind kind.Bool kind.Bool = true
is_kind _ _ = false

-- the operation of an operator's sign
abbrev pub op_of : Sign → BinOp
op_of Add = op.Add
op_of Sub = op.Sub
op_of Mul = op.Mul
op_of Div = op.Div
op_of Rem = op.Rem
op_of Eq = op.Eq
op_of Ne = op.Ne
op_of Lt = op.Lt
op_of Le = op.Le
op_of Gt = op.Gt
op_of Ge = op.Ge

-- whether the operands have to be ints; those of `==` and `!=` are of any one kind
abbrev pub takes_ints : Sign → Bool
takes_ints Eq = false
takes_ints Ne = false
takes_ints _ = true

-- the kind of the result
abbrev pub result_kind : Sign → Kind
result_kind Add = kind.Int
result_kind Sub = kind.Int
result_kind Mul = kind.Int
result_kind Div = kind.Int
result_kind Rem = kind.Int
result_kind _ = kind.Bool

abbrev pub is_division : Sign → Bool
is_division Div = true
is_division Rem = true
is_division _ = false
