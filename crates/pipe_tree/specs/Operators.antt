-- The operators of expressions: their symbols, their precedences and those of their operands.
use Rattle.std.specs.Prelude.{ℕ, ◌+◌, max}
use Rattle.pipe_lexer.specs.declared.operator.BinOp.{BinOp}
use Rattle.pipe_lexer.specs.declared.operator.BinOp.TheVariants.{Add, Sub, Mul, Div, Rem, Eq, Ne, Lt, Le, Gt, Ge}
use Rattle.pipe_lexer.specs.declared.symbol.Symbol.{Symbol}
use Rattle.pipe_lexer.specs.declared.symbol.Symbol.TheVariants as symbol

abbrev pub sign_of : BinOp → Symbol
sign_of Add = symbol.Plus
sign_of Sub = symbol.Minus
sign_of Mul = symbol.Times
sign_of Div = symbol.Slash
sign_of Rem = symbol.Percent
sign_of Eq = symbol.EqualEqual
sign_of Ne = symbol.BangEqual
sign_of Lt = symbol.Less
sign_of Le = symbol.LessEqual
sign_of Gt = symbol.Greater
sign_of Ge = symbol.GreaterEqual

-- The precedences of the grammar, from the loosest: 0 expr, 1 or, 2 and, 3 cmp, 4 sum, 5 prod, 6 unary, 7 atom.
abbrev pub precedence : BinOp → ℕ
precedence Eq = 3
precedence Ne = 3
precedence Lt = 3
precedence Le = 3
precedence Gt = 3
precedence Ge = 3
precedence Add = 4
precedence Sub = 4
precedence Mul = 5
precedence Div = 5
precedence Rem = 5

-- the loosest precedence of a left operand: that of its operator, but comparisons don't follow one another
abbrev pub left_precedence : BinOp → ℕ
left_precedence op = max (precedence op) 4

-- and of a right operand, one tighter: operators of one precedence group to the left
abbrev pub right_precedence : BinOp → ℕ
right_precedence op = precedence op + 1
