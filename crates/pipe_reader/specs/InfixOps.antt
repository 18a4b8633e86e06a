-- All operators that stand between two operands, `&&` and `||` too, and the trees that they make.
use Rattle.pipe_reader.specs.declared.infix_op.InfixOp.{InfixOp}
use Rattle.pipe_reader.specs.declared.infix_op.InfixOp.TheVariants.{Binary, And as AndOp, Or as OrOp}
use Rattle.std.specs.Prelude.{ℕ, ◌+◌}
use Rattle.pipe_lexer.specs.declared.symbol.Symbol.{Symbol}
use Rattle.pipe_lexer.specs.declared.symbol.Symbol.TheVariants as symbol
use Rattle.pipe_tree.specs.Operators.{sign_of, precedence, left_precedence}
use Rattle.pipe_tree.specs.Trees.{Formula, offset_of, Num, Truth, Name, Len, Neg, Not, Paren, Bin, And, Or, If}

abbrev pub infix_sign : InfixOp → Symbol
infix_sign (Binary op) = sign_of op
infix_sign AndOp = symbol.AndAnd
infix_sign OrOp = symbol.BarBar

-- the precedence of an infix operator, and the loosest ones of its operands
abbrev pub infix_precedence : InfixOp → ℕ
infix_precedence (Binary op) = precedence op
infix_precedence AndOp = 2
infix_precedence OrOp = 1

abbrev pub infix_left_precedence : InfixOp → ℕ
infix_left_precedence (Binary op) = left_precedence op
infix_left_precedence AndOp = 2
infix_left_precedence OrOp = 1

abbrev pub infix_right_precedence : InfixOp → ℕ
infix_right_precedence operator = infix_precedence operator + 1

-- two operands, with this infix operator at this offset between them
abbrev pub join : InfixOp → ℕ → Formula → Formula → Formula
join (Binary op) q a b = Bin (offset_of a) op q a b
join AndOp q a b = And (offset_of a) q a b
join OrOp q a b = Or (offset_of a) q a b

-- the precedence of a tree
abbrev pub formula_precedence : Formula → ℕ
formula_precedence (Num at w) = 7
formula_precedence (Truth at b) = 7
formula_precedence (Name at n) = 7
formula_precedence (Len at q n) = 7
formula_precedence (Neg at a) = 6
formula_precedence (Not at a) = 6
formula_precedence (Paren at a) = 7
formula_precedence (Bin at op q a b) = precedence op
formula_precedence (And at q a b) = 2
formula_precedence (Or at q a b) = 1
formula_precedence (If at c a b) = 0
