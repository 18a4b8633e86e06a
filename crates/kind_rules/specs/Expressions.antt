-- The kinds of expressions, and what they stand for. Parts are gone through from left to right, and each
-- operand's own kind is tested before the next is looked at.
use Rattle.std.specs.Prelude.{ℕ, Option, Some, None, Bool, true, false, ◌||◌, Ok, Err}
use Rattle.list_denotation.specs.declared.kind.Kind.{Kind}
use Rattle.list_denotation.specs.declared.kind.Kind.TheVariants as kind
use Rattle.list_denotation.specs.Terms.{Term}
use Rattle.list_denotation.specs.Terms as term
use Rattle.pipe_tree.specs.Trees.{Formula, offset_of, Num, Truth, Name, Len, Neg, Not, Paren, Bin, And, Or, If}
use Rattle.pipe_lexer.specs.declared.operator.BinOp.{BinOp as Sign}
use Rattle.pipe_lexer.specs.declared.operator.BinOp.TheVariants.{Div, Rem}
use Rattle.pipe_lexer.specs.declared.operator.InputKind.TheVariants as input
use Rattle.kind_rules.specs.declared.fault.TypeFault.TheVariants as fault
use Rattle.kind_rules.specs.declared.meaning.Meaning.{Meaning}
use Rattle.kind_rules.specs.declared.meaning.Meaning.TheVariants as meaning
use Rattle.kind_rules.specs.Checked.{Checked, after, unless}
use Rattle.kind_rules.specs.Scopes.{Scope, meaning_of}
use Rattle.kind_rules.specs.Signs.{is_kind, op_of, takes_ints, result_kind, is_division}

-- an expression's kind, and what it stands for
pub record Typed : Type 0 where
  pub kind : Kind
  pub term : Term

abbrev pub typed_term : Kind → Term → Typed
typed_term k t = record { kind = k; term = t }

-- two operands of one kind
pub record Operands : Type 0 where
  pub kind : Kind
  pub left : Term
  pub right : Term

abbrev pub operands : Kind → Term → Term → Operands
operands k x y = record { kind = k; left = x; right = y }

-- a name in an expression: a bound word or an int input
abbrev pub value_named : ℕ → Option Meaning → Checked Typed
value_named at None = Err (fault.Unknown at)
value_named at (Some (meaning.Bound i k)) = Ok (typed_term k (term.Var i))
value_named at (Some (meaning.Input i input.Int)) = Ok (typed_term kind.Int (term.Param i))
value_named at (Some (meaning.Input i input.Array)) = Err (fault.Mismatch at)

-- a name after `array` or in `len`: the position of an array input
abbrev pub array_named : ℕ → Option Meaning → Checked ℕ
array_named at None = Err (fault.Unknown at)
array_named at (Some (meaning.Bound i k)) = Err (fault.NotArray at)
array_named at (Some (meaning.Input i input.Int)) = Err (fault.NotArray at)
array_named at (Some (meaning.Input i input.Array)) = Ok i

-- a part at this offset, if it is of this kind
abbrev pub of_kind : Kind → ℕ → Checked Typed → Checked Term
of_kind k at part = after part (λ t. unless (is_kind t.kind k) (fault.Mismatch at) (Ok t.term))

-- two parts of this kind; the numbers are their offsets
abbrev pub both : Kind → ℕ → ℕ → Checked Typed → Checked Typed → Checked Operands
both k at_a at_b a b = after (of_kind k at_a a) (λ x. after (of_kind k at_b b) (λ y. Ok (operands k x y)))

-- two parts of any one kind; the number is the offset of the second
abbrev pub alike : ℕ → Checked Typed → Checked Typed → Checked Operands
alike at_b a b = after a (λ x. after (of_kind x.kind at_b b) (λ y. Ok (operands x.kind x.term y)))

-- the operands of an operator that takes ints, or parts of any one kind
abbrev pub operand_pair : Bool → ℕ → ℕ → Checked Typed → Checked Typed → Checked Operands
operand_pair true at_a at_b a b = both kind.Int at_a at_b a b
operand_pair false at_a at_b a b = alike at_b a b

abbrev pub operation : Sign → Bool → ℕ → ℕ → Checked Typed → Checked Typed → Checked Typed
operation o ints at_a at_b a b = after (operand_pair ints at_a at_b a b) (λ p. Ok (typed_term (result_kind o) (term.Bin (op_of o) p.left p.right)))

-- the expression in a scope; parentheses are dropped
abbrev pub expression_of : Scope → Formula → Checked Typed
expression_of scope (Num at w) = Ok (typed_term kind.Int (term.Lit w))
expression_of scope (Truth at b) = Ok (typed_term kind.Bool (term.Truth b))
expression_of scope (Name at n) = value_named at (meaning_of scope n)
expression_of scope (Len at q n) = after (array_named q (meaning_of scope n)) (λ i. Ok (typed_term kind.Int (term.Len i)))
expression_of scope (Paren at a) = expression_of scope a
expression_of scope (Neg at a) = after (of_kind kind.Int (offset_of a) (expression_of scope a)) (λ x. Ok (typed_term kind.Int (term.Neg x)))
expression_of scope (Not at a) = after (of_kind kind.Bool (offset_of a) (expression_of scope a)) (λ x. Ok (typed_term kind.Bool (term.Not x)))
expression_of scope (Bin at o q a b) = operation o (takes_ints o) (offset_of a) (offset_of b) (expression_of scope a) (expression_of scope b)
expression_of scope (And at q a b) =
    after (both kind.Bool (offset_of a) (offset_of b) (expression_of scope a) (expression_of scope b)) (λ p. Ok (typed_term kind.Bool (term.And p.left p.right)))
expression_of scope (Or at q a b) =
    after (both kind.Bool (offset_of a) (offset_of b) (expression_of scope a) (expression_of scope b)) (λ p. Ok (typed_term kind.Bool (term.Or p.left p.right)))
expression_of scope (If at c a b) =
    after (of_kind kind.Bool (offset_of c) (expression_of scope c)) (λ x.
    after (alike (offset_of b) (expression_of scope a) (expression_of scope b)) (λ p. Ok (typed_term p.kind (term.If x p.left p.right))))

-- an expression that is of this kind
abbrev pub of_this_kind : Scope → Kind → Formula → Checked Term
of_this_kind scope k e = of_kind k (offset_of e) (expression_of scope e)

-- two expressions that are of this kind, of any one kind, or what an operator takes
abbrev pub both_of : Scope → Kind → Formula → Formula → Checked Operands
both_of scope k a b = both k (offset_of a) (offset_of b) (expression_of scope a) (expression_of scope b)

abbrev pub alike_of : Scope → Formula → Formula → Checked Operands
alike_of scope a b = alike (offset_of b) (expression_of scope a) (expression_of scope b)

abbrev pub operands_of : Scope → Sign → Formula → Formula → Checked Operands
operands_of scope o a b = operand_pair (takes_ints o) (offset_of a) (offset_of b) (expression_of scope a) (expression_of scope b)

-- ---- opening expressions hold no division

-- a `/` or a `%` stands in the expression
abbrev pub has_division : Formula → Bool
has_division (Num at w) = false
has_division (Truth at b) = false
has_division (Name at n) = false
has_division (Len at q n) = false
has_division (Paren at a) = has_division a
has_division (Neg at a) = has_division a
has_division (Not at a) = has_division a
has_division (Bin at o q a b) = has_division a || (is_division o || has_division b)
has_division (And at q a b) = has_division a || has_division b
has_division (Or at q a b) = has_division a || has_division b
has_division (If at c a b) = has_division c || (has_division a || has_division b)

abbrev pub first : Option ℕ → Option ℕ → Option ℕ
first None b = b
first (Some at) b = Some at

abbrev pub division_at : Sign → ℕ → Option ℕ
division_at Div at = Some at
division_at Rem at = Some at
division_at _ at = None

-- the offset of the first division in the text
abbrev pub first_division : Formula → Option ℕ
first_division (Num at w) = None
first_division (Truth at b) = None
first_division (Name at n) = None
first_division (Len at q n) = None
first_division (Paren at a) = first_division a
first_division (Neg at a) = first_division a
first_division (Not at a) = first_division a
first_division (Bin at o q a b) = first (first_division a) (first (division_at o q) (first_division b))
first_division (And at q a b) = first (first_division a) (first_division b)
first_division (Or at q a b) = first (first_division a) (first_division b)
first_division (If at c a b) = first (first_division c) (first (first_division a) (first_division b))

-- the value, unless a division stands at some offset
abbrev pub if_undivided : {A : Type 0} → Option ℕ → A → Checked A
if_undivided None a = Ok a
if_undivided (Some at) a = Err (fault.DivisionInOpening at)

-- an opening expression of any kind, and one of this kind
abbrev pub opening_of : Scope → Formula → Checked Typed
opening_of scope e = after (expression_of scope e) (λ t. if_undivided (first_division e) t)

abbrev pub opening_kind : Scope → Kind → Formula → Checked Term
opening_kind scope k e = after (of_this_kind scope k e) (λ t. if_undivided (first_division e) t)
