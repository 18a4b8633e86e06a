-- A reader of expressions, one token at a time, over the forms that are open around it. What the
-- expression stands in is not known to it: it answers the tree at the first token that isn't its own.
use Rattle.std.specs.Prelude.{ℕ, ◌+◌, List, [], ◌∷◌, Option, Some, None, Bool, true, false, cond, ◌&&◌, nat_lt}
use Rattle.pipe_lexer.specs.declared.keyword.Keyword.TheVariants as key
use Rattle.pipe_lexer.specs.declared.operator.BinOp.TheVariants.{Add, Sub, Mul, Div, Rem, Eq, Ne, Lt, Le, Gt, Ge}
use Rattle.pipe_lexer.specs.declared.symbol.Symbol.TheVariants as symbol
use Rattle.pipe_reader.specs.InfixOps.{infix_precedence, infix_left_precedence, infix_right_precedence, join, formula_precedence}
use Rattle.pipe_reader.specs.declared.infix_op.InfixOp.{InfixOp}
use Rattle.pipe_reader.specs.declared.infix_op.InfixOp.TheVariants.{Binary, And as AndOp, Or as OrOp}
use Rattle.pipe_reader.specs.declared.roles.Mark.{Mark}
use Rattle.pipe_reader.specs.declared.roles.Mark.TheVariants.{Opening, Closing, ThenKeyword, ElseKeyword}
use Rattle.pipe_reader.specs.declared.roles.Follow.{Follow}
use Rattle.pipe_reader.specs.declared.roles.Follow.TheVariants.{Operator, Marks, Foreign}
use Rattle.pipe_tree.specs.Tokens.{What, Named, Number, Key, Sym}
use Rattle.pipe_tree.specs.Trees.{Formula, Num, Truth, Name, Len, Neg, Not, Paren, If}

-- a form whose last operand is awaited
pub data Final : Type 0 where
  Negates Denies : (at : ℕ) → Final
  Joins : (operator : InfixOp) (at : ℕ) (left : Formula) → Final
  Chooses : (at : ℕ) (c a : Formula) → Final

-- an open form; the others await what stands in parentheses, after `if` and after `then`
pub data Frame : Type 0 where
  Last : Final → Frame
  Encloses : (at : ℕ) → Frame
  Tests : (at : ℕ) → Frame
  Branches : (at : ℕ) (c : Formula) → Frame

-- the tree of a form with its last operand
abbrev pub complete_form : Final → Formula → Formula
complete_form (Negates at) u = Neg at u
complete_form (Denies at) u = Not at u
complete_form (Joins operator q a) u = join operator q a u
complete_form (Chooses at c a) u = If at c a u

-- the precedence of a form
abbrev pub final_precedence : Final → ℕ
final_precedence (Negates at) = 6
final_precedence (Denies at) = 6
final_precedence (Joins operator q a) = infix_precedence operator
final_precedence (Chooses at c a) = 0

abbrev pub frame_precedence : Frame → ℕ
frame_precedence (Last f) = final_precedence f
frame_precedence (Encloses at) = 7
frame_precedence (Tests at) = 0
frame_precedence (Branches at c) = 0

-- the loosest precedence of the operand that is awaited
abbrev pub final_wanted_precedence : Final → ℕ
final_wanted_precedence (Negates at) = 6
final_wanted_precedence (Denies at) = 6
final_wanted_precedence (Joins operator q a) = infix_right_precedence operator
final_wanted_precedence (Chooses at c a) = 0

abbrev pub frame_wanted_precedence : Frame → ℕ
frame_wanted_precedence (Last f) = final_wanted_precedence f
frame_wanted_precedence (Encloses at) = 0
frame_wanted_precedence (Tests at) = 0
frame_wanted_precedence (Branches at c) = 0

abbrev pub wanted_precedence : List Frame → ℕ
wanted_precedence [] = 0
wanted_precedence (f ∷ s) = frame_wanted_precedence f

-- An operand is awaited; an operand is there; or a `len` is open, with its parenthesis, its name or
-- its closing parenthesis awaited.
pub data State : Type 0 where
  Need : List Frame → State
  Have : List Frame → Formula → State
  Calls Spells : List Frame → (at : ℕ) → State
  Closes : List Frame → (at q : ℕ) (name : List ℕ) → State

-- it goes on; the tree is whole, and the token is not its own; or nothing goes on with the token
pub data Step : Type 0 where
  Goes : State → Step
  Leaves : Formula → Step
  Stuck : Step

-- what a token begins: a tree, a form, a `len`, or nothing
pub data Start : Type 0 where
  Leaf : Formula → Start
  Opens : Frame → Start
  Length : (at : ℕ) → Start
  Nothing : Start

abbrev pub start_of : What → ℕ → Start
start_of (Named n) at = Leaf (Name at n)
start_of (Number w) at = Leaf (Num at w)
start_of (Key key.True) at = Leaf (Truth at true)
start_of (Key key.False) at = Leaf (Truth at false)
start_of (Key key.Len) at = Length at
start_of (Key key.If) at = Opens (Tests at)
start_of (Key _) at = Nothing
start_of (Sym symbol.Minus) at = Opens (Last (Negates at))
start_of (Sym symbol.Bang) at = Opens (Last (Denies at))
start_of (Sym symbol.OpenParen) at = Opens (Encloses at)
start_of (Sym _) at = Nothing

abbrev pub mark_token : Mark → What
mark_token Opening = Sym symbol.OpenParen
mark_token Closing = Sym symbol.CloseParen
mark_token ThenKeyword = Key key.Then
mark_token ElseKeyword = Key key.Else

abbrev pub is_same_mark : Mark → Mark → Bool
is_same_mark Opening Opening = true
is_same_mark Closing Closing = true
is_same_mark ThenKeyword ThenKeyword = true
is_same_mark ElseKeyword ElseKeyword = true
is_same_mark _ _ = false

abbrev pub follow_of : What → Follow
follow_of (Named n) = Foreign
follow_of (Number w) = Foreign
follow_of (Key key.Then) = Marks ThenKeyword
follow_of (Key key.Else) = Marks ElseKeyword
follow_of (Key _) = Foreign
follow_of (Sym symbol.OpenParen) = Marks Opening
follow_of (Sym symbol.CloseParen) = Marks Closing
follow_of (Sym symbol.BarBar) = Operator OrOp
follow_of (Sym symbol.AndAnd) = Operator AndOp
follow_of (Sym symbol.EqualEqual) = Operator (Binary Eq)
follow_of (Sym symbol.BangEqual) = Operator (Binary Ne)
follow_of (Sym symbol.Less) = Operator (Binary Lt)
follow_of (Sym symbol.LessEqual) = Operator (Binary Le)
follow_of (Sym symbol.Greater) = Operator (Binary Gt)
follow_of (Sym symbol.GreaterEqual) = Operator (Binary Ge)
follow_of (Sym symbol.Plus) = Operator (Binary Add)
follow_of (Sym symbol.Minus) = Operator (Binary Sub)
follow_of (Sym symbol.Times) = Operator (Binary Mul)
follow_of (Sym symbol.Slash) = Operator (Binary Div)
follow_of (Sym symbol.Percent) = Operator (Binary Rem)
follow_of (Sym _) = Foreign

abbrev pub at_most : ℕ → ℕ → Bool
at_most a b = nat_lt a (b + 1)

-- where an operand is awaited
abbrev pub step_from_start : List Frame → Start → Step
step_from_start s (Leaf u) = Goes (Have s u)
step_from_start s (Opens f) = cond (at_most (wanted_precedence s) (frame_precedence f)) (Goes (Need (f ∷ s))) Stuck
step_from_start s (Length at) = Goes (Calls s at)
step_from_start s Nothing = Stuck

-- the operand may be the left one of this infix operator
abbrev pub may_join : List Frame → Formula → InfixOp → Bool
may_join s u operator = at_most (wanted_precedence s) (infix_precedence operator) && at_most (infix_left_precedence operator) (formula_precedence u)

abbrev pub step_by_operator : Follow → List Frame → Formula → ℕ → Step → Step
step_by_operator (Operator operator) s u p other = cond (may_join s u operator) (Goes (Need (Last (Joins operator p u) ∷ s))) other
step_by_operator (Marks m) s u p other = other
step_by_operator Foreign s u p other = other

-- the token is this mark, and then
abbrev pub step_by_mark : Mark → Follow → State → Step
step_by_mark m (Operator operator) then_state = Stuck
step_by_mark m (Marks n) then_state = cond (is_same_mark m n) (Goes then_state) Stuck
step_by_mark m Foreign then_state = Stuck

-- u is the whole operand of the innermost form, and the token follows it
abbrev pub pop : List Frame → Formula → Follow → ℕ → Step
pop [] u k p = Leaves u
pop (Last f ∷ s) u k p = step_by_operator k s (complete_form f u) p (pop s (complete_form f u) k p)
pop (Encloses at ∷ s) u k p = step_by_mark Closing k (Have s (Paren at u))
pop (Tests at ∷ s) u k p = step_by_mark ThenKeyword k (Need (Branches at u ∷ s))
pop (Branches at c ∷ s) u k p = step_by_mark ElseKeyword k (Need (Last (Chooses at c u) ∷ s))

-- where an operand is there
abbrev pub shift : List Frame → Formula → Follow → ℕ → Step
shift s u k p = step_by_operator k s u p (pop s u k p)

-- the name of a `len`
abbrev pub step_by_name : List Frame → ℕ → What → ℕ → Step
step_by_name s at (Named n) q = Goes (Closes s at q n)
step_by_name s at (Number w) q = Stuck
step_by_name s at (Key k) q = Stuck
step_by_name s at (Sym k) q = Stuck

abbrev pub step : State → What → ℕ → Step
step (Need s) k p = step_from_start s (start_of k p)
step (Have s u) k p = shift s u (follow_of k) p
step (Calls s at) k p = step_by_mark Opening (follow_of k) (Spells s at)
step (Spells s at) k p = step_by_name s at k p
step (Closes s at q n) k p = step_by_mark Closing (follow_of k) (Have s (Len at q n))

-- at the end of the tokens, which no expression goes on with
abbrev pub finish : State → Step
finish (Need s) = Stuck
finish (Have s u) = shift s u Foreign 0
finish (Calls s at) = Stuck
finish (Spells s at) = Stuck
finish (Closes s at q n) = Stuck

-- no expression goes on with this: it is no operator
abbrev pub IsForeign : Follow → Type 0
IsForeign (Operator operator) = ⊥
IsForeign (Marks m) = Unit {0}
IsForeign Foreign = Unit {0}

-- the tree of a step that leaves
abbrev pub tree_of : Step → Option Formula
tree_of (Goes s) = None
tree_of (Leaves u) = Some u
tree_of Stuck = None
