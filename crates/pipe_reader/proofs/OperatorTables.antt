-- The tables of the operators: their precedences and those of their operands, and what tokens are to an operand.
use Rattle.std.proofs.Common.{◌≡◌, ℕ, ◌≤◌, ◌<◌, ◌+◌, List, [], ◌∷◌, refl, arith, Bool, true, false, ◌&&◌}
use Rattle.std.proofs.lemmas.Bool.{ltb-true, lt-ltb}
use Rattle.pipe_lexer.specs.declared.keyword.Keyword.TheVariants as key
use Rattle.pipe_lexer.specs.declared.operator.BinOp.TheVariants.{Add}
use Rattle.pipe_lexer.specs.declared.symbol.Symbol.TheVariants as symbol
use Rattle.pipe_reader.specs.InfixOps.{infix_sign, infix_precedence, infix_left_precedence, infix_right_precedence, join, formula_precedence}
use Rattle.pipe_reader.specs.declared.infix_op.InfixOp.{InfixOp}
use Rattle.pipe_reader.specs.declared.infix_op.InfixOp.TheVariants.{Binary, And as AndOp, Or as OrOp}
use Rattle.pipe_reader.specs.Machine.{Final, Negates, Denies, Joins, Chooses, complete_form, final_precedence, final_wanted_precedence, Frame, Last, Encloses, Tests, Branches, wanted_precedence, mark_token, is_same_mark, follow_of, at_most, may_join}
use Rattle.pipe_reader.specs.declared.roles.Mark.{Mark}
use Rattle.pipe_reader.specs.declared.roles.Follow.{Follow}
use Rattle.pipe_reader.specs.declared.roles.Mark.TheVariants.{Opening, Closing, ThenKeyword, ElseKeyword}
use Rattle.pipe_reader.specs.declared.roles.Follow.TheVariants.{Operator, Marks, Foreign}
use Rattle.pipe_tree.specs.Tokens.{What, Named, Number, Key, Sym}
use Rattle.pipe_tree.specs.Trees.{Formula}

-- ---- precedences

pub record OperandPrecedences (operator : InfixOp) : Type 0 where
  pub above : 0 < infix_precedence operator
  pub left : infix_precedence operator ≤ infix_left_precedence operator
  pub left_most : infix_left_precedence operator ≤ 5
  pub right : infix_precedence operator < infix_right_precedence operator
  pub right_most : infix_right_precedence operator ≤ 6

pub operand_precedences : (operator : InfixOp) → OperandPrecedences operator
operand_precedences AndOp = record { above = omega arith; left = omega arith; left_most = omega arith; right = omega arith; right_most = omega arith }
operand_precedences OrOp = record { above = omega arith; left = omega arith; left_most = omega arith; right = omega arith; right_most = omega arith }
operand_precedences (Binary Add) = record { above = omega arith; left = omega arith; left_most = omega arith; right = omega arith; right_most = omega arith }
operand_precedences (Binary _) = record { above = omega arith; left = omega arith; left_most = omega arith; right = omega arith; right_most = omega arith }

pub formula_precedence-join : (operator : InfixOp) (q : ℕ) (a b : Formula) → formula_precedence (join operator q a b) ≡ infix_precedence operator
formula_precedence-join (Binary op) q a b = refl
formula_precedence-join AndOp q a b = refl
formula_precedence-join OrOp q a b = refl

pub formula_precedence-complete_form : (f : Final) (u : Formula) → formula_precedence (complete_form f u) ≡ final_precedence f
formula_precedence-complete_form (Negates at) u = refl
formula_precedence-complete_form (Denies at) u = refl
formula_precedence-complete_form (Joins operator q a) u = formula_precedence-join operator q a u
formula_precedence-complete_form (Chooses at c a) u = refl

-- a form's precedence is no tighter than that of its last operand, which is that of a unary operator at most
pub record FinalPrecedences (f : Final) : Type 0 where
  pub own : final_precedence f ≤ final_wanted_precedence f
  pub most : final_wanted_precedence f ≤ 6

pub final_precedences : (f : Final) → FinalPrecedences f
final_precedences (Negates at) = record { own = omega arith; most = omega arith }
final_precedences (Denies at) = record { own = omega arith; most = omega arith }
final_precedences (Joins operator q a) = record { own = omega (arith, (operand_precedences operator).right); most = (operand_precedences operator).right_most }
final_precedences (Chooses at c a) = record { own = omega arith; most = omega arith }

pub wanted_precedence_most : (s : List Frame) → wanted_precedence s ≤ 6
wanted_precedence_most [] = omega arith
wanted_precedence_most (Last f ∷ s) = (final_precedences f).most
wanted_precedence_most (Encloses at ∷ s) = omega arith
wanted_precedence_most (Tests at ∷ s) = omega arith
wanted_precedence_most (Branches at c ∷ s) = omega arith

-- an infix operator that a form's last operand could grow by does not grow the form
pub not_both : (f : Final) (operator : InfixOp) → final_wanted_precedence f ≤ infix_precedence operator → infix_left_precedence operator ≤ final_precedence f → ⊥
not_both (Negates at) operator h g = omega (arith, (operand_precedences operator).left, (operand_precedences operator).left_most)
not_both (Denies at) operator h g = omega (arith, (operand_precedences operator).left, (operand_precedences operator).left_most)
not_both (Joins k q a) operator h g = omega (arith, (operand_precedences operator).left, (operand_precedences k).right)
not_both (Chooses at c a) operator h g = omega (arith, (operand_precedences operator).left, (operand_precedences operator).above)

-- ---- tokens

pub follow_of-infix_sign : (operator : InfixOp) → follow_of (Sym (infix_sign operator)) ≡ Operator operator
follow_of-infix_sign AndOp = refl
follow_of-infix_sign OrOp = refl
follow_of-infix_sign (Binary Add) = refl
follow_of-infix_sign (Binary _) = refl

pub follow_of-mark_token : (m : Mark) → follow_of (mark_token m) ≡ Marks m
follow_of-mark_token Opening = refl
follow_of-mark_token Closing = refl
follow_of-mark_token ThenKeyword = refl
follow_of-mark_token ElseKeyword = refl

-- the token is what it is to an operand
abbrev pub IsFollow : Follow → What → Type 0
IsFollow (Operator operator) k = k ≡ Sym (infix_sign operator)
IsFollow (Marks m) k = k ≡ mark_token m
IsFollow Foreign k = Unit {0}

pub follow_is : (k : What) → IsFollow (follow_of k) k
follow_is (Named n) = tt
follow_is (Number w) = tt
follow_is (Key key.Then) = refl
follow_is (Key key.Else) = refl
follow_is (Key _) = tt
follow_is (Sym symbol.OpenParen) = refl
follow_is (Sym symbol.CloseParen) = refl
follow_is (Sym symbol.BarBar) = refl
follow_is (Sym symbol.AndAnd) = refl
follow_is (Sym symbol.EqualEqual) = refl
follow_is (Sym symbol.BangEqual) = refl
follow_is (Sym symbol.Less) = refl
follow_is (Sym symbol.LessEqual) = refl
follow_is (Sym symbol.Greater) = refl
follow_is (Sym symbol.GreaterEqual) = refl
follow_is (Sym symbol.Plus) = refl
follow_is (Sym symbol.Minus) = refl
follow_is (Sym symbol.Times) = refl
follow_is (Sym symbol.Slash) = refl
follow_is (Sym symbol.Percent) = refl
follow_is (Sym _) = tt

pub is_same_mark-is : (m n : Mark) → is_same_mark m n ≡ true → m ≡ n
is_same_mark-is Opening Opening e = refl
is_same_mark-is Closing Closing e = refl
is_same_mark-is ThenKeyword ThenKeyword e = refl
is_same_mark-is ElseKeyword ElseKeyword e = refl
is_same_mark-is _ _ e = absurd cc

pub is_same_mark-refl : (m : Mark) → is_same_mark m m ≡ true
is_same_mark-refl Opening = refl
is_same_mark-refl Closing = refl
is_same_mark-refl ThenKeyword = refl
is_same_mark-refl ElseKeyword = refl

-- ---- tests

pub at_most-true : (a b : ℕ) → a ≤ b → at_most a b ≡ true
at_most-true a b h = lt-ltb a (b + 1) (omega arith)

pub at_most-is : (a b : ℕ) → at_most a b ≡ true → a ≤ b
at_most-is a b e = omega (arith, ltb-true a (b + 1) e)

pub may_join-true : (s : List Frame) (u : Formula) (operator : InfixOp) → wanted_precedence s ≤ infix_precedence operator → infix_left_precedence operator ≤ formula_precedence u → may_join s u operator ≡ true
may_join-true s u operator a b = rw (at_most-true _ _ a, at_most-true _ _ b) refl

and-true : (a b : Bool) → (a && b) ≡ true → (a ≡ true) × (b ≡ true)
and-true true true e = (refl, refl)
and-true true false e = absurd cc
and-true false b e = absurd cc

pub record IsLeftOperand (s : List Frame) (u : Formula) (operator : InfixOp) : Type 0 where
  pub precedence : wanted_precedence s ≤ infix_precedence operator
  pub left : infix_left_precedence operator ≤ formula_precedence u

pub may_join-is : (s : List Frame) (u : Formula) (operator : InfixOp) → may_join s u operator ≡ true → IsLeftOperand s u operator
may_join-is s u operator e =
    let p = and-true (at_most (wanted_precedence s) (infix_precedence operator)) (at_most (infix_left_precedence operator) (formula_precedence u)) e in
    record { precedence = at_most-is (wanted_precedence s) (infix_precedence operator) p.0; left = at_most-is (infix_left_precedence operator) (formula_precedence u) p.1 }
