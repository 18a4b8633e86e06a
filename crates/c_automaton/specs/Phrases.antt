-- Operands and tests, read one token at a time. A ( may begin an operand or a test, until an operator decides.
use Rattle.std.specs.Prelude.{Bool, true, false, ◌&&◌, cond, List, [], ◌∷◌, Option, Some, None}
use Rattle.loop_ir.specs.declared.syntax.WOp.TheVariants as op
use Rattle.loop_ir.specs.Statements.{Operand, Const, Var, Len, Int, Bin, Test, Less, Same, Both, Either, Not}
use Rattle.c_tokens.specs.declared.symbol.Symbol.TheVariants as sym
use Rattle.c_words.specs.declared.token.CToken.{CToken}
use Rattle.c_words.specs.declared.token.CToken.TheVariants as token
use Rattle.c_words.specs.declared.token.Letter.TheVariants as letter
use Rattle.c_automaton.specs.declared.forms.Want.{Want}
use Rattle.c_automaton.specs.declared.forms.Want.TheVariants as want
use Rattle.c_automaton.specs.declared.forms.Operator.{Operator}
use Rattle.c_automaton.specs.declared.forms.Operator.TheVariants as operator

-- what has been read
pub data Phrase : Type 0 where
  AnOperand : Operand → Phrase
  ATest : Test → Phrase

-- a ( with nothing behind it, and what it may become; a phrase and the operator behind it; a !
pub data Frame : Type 0 where
  Open : Want → Frame
  Left : Operator → Phrase → Frame
  Negation : Frame

-- the frames that are open, the innermost first, and the phrase that was read last, where an operator or
-- a ) is to come; none where a phrase is to begin
pub record Reading : Type 0 where
  pub frames : List Frame
  pub got : Option Phrase

-- ---- what may stand where

abbrev pub may_be_operand : Want → Bool
may_be_operand want.Operand = true
may_be_operand want.Test = false
may_be_operand want.Either = true

abbrev pub may_be_test : Want → Bool
may_be_test want.Operand = false
may_be_test want.Test = true
may_be_test want.Either = true

abbrev pub allows : Want → Phrase → Bool
allows want (AnOperand a) = may_be_operand want
allows want (ATest t) = may_be_test want

-- what may stand first in parentheses
abbrev pub inside : Want → Want
inside want.Operand = want.Operand
inside want.Test = want.Either
inside want.Either = want.Either

-- what an operator stands between
abbrev pub side_of : Operator → Want
side_of (operator.Arithmetic o) = want.Operand
side_of operator.Less = want.Operand
side_of operator.Same = want.Operand
side_of operator.Both = want.Test
side_of operator.Either = want.Test

-- what may become of parentheses with this operator in them
abbrev pub may_join : Want → Operator → Bool
may_join w (operator.Arithmetic o) = may_be_operand w
may_join w operator.Less = may_be_test w
may_join w operator.Same = may_be_test w
may_join w operator.Both = may_be_test w
may_join w operator.Either = may_be_test w

-- the two sides of an operator as one phrase
abbrev pub joined : Operator → Phrase → Phrase → Option Phrase
joined (operator.Arithmetic o) (AnOperand a) (AnOperand b) = Some (AnOperand (Bin o a b))
joined operator.Less (AnOperand a) (AnOperand b) = Some (ATest (Less a b))
joined operator.Same (AnOperand a) (AnOperand b) = Some (ATest (Same a b))
joined operator.Both (ATest t) (ATest u) = Some (ATest (Both t u))
joined operator.Either (ATest t) (ATest u) = Some (ATest (Either t u))
joined o p q = None

abbrev pub negated : Phrase → Option Phrase
negated (AnOperand a) = None
negated (ATest t) = Some (ATest (Not t))

-- ---- tokens

abbrev pub operator_at : CToken → Option Operator
operator_at (token.Sym sym.Plus) = Some (operator.Arithmetic op.Add)
operator_at (token.Sym sym.Minus) = Some (operator.Arithmetic op.Sub)
operator_at (token.Sym sym.Star) = Some (operator.Arithmetic op.Mul)
operator_at (token.Sym sym.Slash) = Some (operator.Arithmetic op.Div)
operator_at (token.Sym sym.Percent) = Some (operator.Arithmetic op.Rem)
operator_at (token.Sym sym.Caret) = Some (operator.Arithmetic op.Xor)
operator_at (token.Sym sym.Less) = Some operator.Less
operator_at (token.Sym sym.EqualEqual) = Some operator.Same
operator_at (token.Sym sym.AndAnd) = Some operator.Both
operator_at (token.Sym sym.BarBar) = Some operator.Either
operator_at t = None

-- an operand of one token
abbrev pub operand_at : CToken → Option Operand
operand_at (token.Constant n) = Some (Const n)
operand_at (token.Name letter.Variable v) = Some (Var v)
operand_at (token.Name letter.Length a) = Some (Len a)
operand_at (token.Name letter.Int k) = Some (Int k)
operand_at t = None

-- ---- steps

-- what may begin inside these frames, where a phrase outside of them may be so
abbrev pub wanted : Want → List Frame → Want
wanted outer [] = outer
wanted outer (Open w ∷ fs) = inside w
wanted outer (Left o p ∷ fs) = side_of o
wanted outer (Negation ∷ fs) = want.Test

abbrev pub begun : List Frame → Option Reading
begun fs = Some (record { frames = fs; got = None })

abbrev pub read : List Frame → Phrase → Option Reading
read fs p = Some (record { frames = fs; got = Some p })

abbrev pub read_where : Bool → List Frame → Option Operand → Option Reading
read_where true fs (Some a) = read fs (AnOperand a)
read_where true fs None = None
read_where false fs a = None

-- a phrase begins, of which this is wanted: with a (, or it is an operand of one token
abbrev pub phrase_begins : Want → List Frame → CToken → Option Reading
phrase_begins w fs (token.Sym sym.OpenParen) = begun (Open w ∷ fs)
phrase_begins w fs t = read_where (may_be_operand w) fs (operand_at t)

-- behind a ( there may be a !
abbrev pub negation_or_phrase : Want → List Frame → CToken → Option Reading
negation_or_phrase w fs (token.Sym sym.Bang) = cond (may_be_test w) (begun (Negation ∷ fs)) None
negation_or_phrase w fs t = phrase_begins (inside w) (Open w ∷ fs) t

abbrev pub begins : Want → List Frame → CToken → Option Reading
begins outer (Open w ∷ fs) t = negation_or_phrase w fs t
begins outer fs t = phrase_begins (wanted outer fs) fs t

abbrev pub operated : Want → List Frame → Phrase → Option Operator → Option Reading
operated w fs p (Some o) = cond (may_join w o && allows (side_of o) p) (begun (Left o p ∷ fs)) None
operated w fs p None = None

abbrev pub read_some : List Frame → Option Phrase → Option Reading
read_some fs (Some p) = read fs p
read_some fs None = None

abbrev pub closed : List Frame → Option Phrase → CToken → Option Reading
closed fs p (token.Sym sym.CloseParen) = read_some fs p
closed fs p t = None

-- a phrase goes on: with an operator, or with the ) that closes it
abbrev pub goes_on : List Frame → Phrase → CToken → Option Reading
goes_on [] p t = None
goes_on (Open w ∷ fs) p t = operated w fs p (operator_at t)
goes_on (Left o a ∷ fs) p t = closed fs (joined o a p) t
goes_on (Negation ∷ fs) p t = closed fs (negated p) t

-- one token more, where a phrase outside of the frames may be so
abbrev pub reads_on : Want → List Frame → Option Phrase → CToken → Option Reading
reads_on outer fs None t = begins outer fs t
reads_on outer fs (Some p) t = goes_on fs p t
