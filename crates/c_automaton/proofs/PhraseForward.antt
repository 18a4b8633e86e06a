-- A token of a phrase, forward: where something goes on with this token, the step goes, and the rest goes on behind it.
use Rattle.std.proofs.Common.{◌≡◌, true, Bool, cond, List, [], ◌∷◌, Option, Some, None, refl, ap, ap₂, subst, ◌∙◌, inl, inr}
use Rattle.loop_ir.specs.Statements.{Operand}
use Rattle.loop_ir.specs.declared.syntax.WOp.TheVariants as op
use Rattle.c_tokens.specs.Pieces as piece
use Rattle.c_tokens.specs.Pieces.{What}
use Rattle.c_tokens.specs.declared.symbol.Symbol.{Symbol}
use Rattle.c_tokens.specs.declared.symbol.Symbol.TheVariants as symbol
use Rattle.c_grammar.specs.Grammar.{Sign}
use Rattle.c_words.specs.Words.{StandsFor}
use Rattle.c_words.specs.declared.token.CToken.{CToken}
use Rattle.c_words.specs.declared.token.CToken.TheVariants as token
use Rattle.c_words.proofs.OneToken.{one_token}
use Rattle.c_automaton.specs.declared.forms.Want.{Want}
use Rattle.c_automaton.specs.declared.forms.Want.TheVariants as want
use Rattle.c_automaton.specs.declared.forms.Operator.{Operator}
use Rattle.c_automaton.specs.declared.forms.Operator.TheVariants as operator
use Rattle.c_automaton.specs.Phrases.{Phrase, AnOperand, Frame, Open, Left, Negation, Reading, may_be_operand, allows, inside, side_of, may_join, joined, negated, operator_at, operand_at, begun, read, read_where, phrase_begins, negation_or_phrase, operated, read_some, closed, reads_on}
use Rattle.c_automaton.proofs.Completions.{symbol_of, PhraseThen, Closes, Follows, ReadsOn}
use Rattle.c_automaton.proofs.PhraseOpens.{BehindParen, closed_of, OneTokenThen, phrase_opens}
use Rattle.c_automaton.proofs.PhraseStates.{reading, BeginsTo, begins_to}

-- ---- steps that go

operator_of_symbol : (o : Operator) → operator_at (token.Sym (symbol_of o)) ≡ Some o
operator_of_symbol (operator.Arithmetic op.Add) = refl
operator_of_symbol (operator.Arithmetic op.Sub) = refl
operator_of_symbol (operator.Arithmetic op.Mul) = refl
operator_of_symbol (operator.Arithmetic op.Div) = refl
operator_of_symbol (operator.Arithmetic op.Rem) = refl
operator_of_symbol (operator.Arithmetic op.Xor) = refl
operator_of_symbol operator.Less = refl
operator_of_symbol operator.Same = refl
operator_of_symbol operator.Both = refl
operator_of_symbol operator.Either = refl

begins_with_operand : (w : Want) (fs : List Frame) (t : CToken) (a : Operand) → may_be_operand w ≡ true → operand_at t ≡ Some a → phrase_begins w fs t ≡ read fs (AnOperand a)
begins_with_operand w fs (token.Sym symbol.OpenParen) a e i = absurd cc
begins_with_operand w fs t a e i = ap₂ (λ (b : Bool) (m : Option Operand). read_where b fs m) e i

operator_goes : (w : Want) (fs : List Frame) (p : Phrase) (o : Operator) → may_join w o ≡ true → allows (side_of o) p ≡ true → operated w fs p (Some o) ≡ begun (Left o p ∷ fs)
operator_goes w fs p o e i = rw (e, i) refl

-- no phrase begins with !
no_bang_begins : {A : Type 0} (w : Want) (fs : List Frame) (r : Reading) → BeginsTo w fs (token.Sym symbol.Bang) r → A
no_bang_begins w fs r (inl b) = let none : None ≡ Some b.operand = b.gives in absurd cc
no_bang_begins w fs r (inr b) = let other = b.0 in absurd cc

begins_behind_paren : (w : Want) (fs : List Frame) (t : CToken) (r : Reading) → phrase_begins (inside w) (Open w ∷ fs) t ≡ Some r → negation_or_phrase w fs t ≡ Some r
begins_behind_paren w fs (token.Sym symbol.Bang) r e = no_bang_begins (inside w) (Open w ∷ fs) r (begins_to (inside w) (Open w ∷ fs) (token.Sym symbol.Bang) r e)
begins_behind_paren w fs t r e = e

-- ---- forward

-- a phrase that isn't read whole
abbrev pub IsUnfinished : List Frame → Option Phrase → Type 0
IsUnfinished [] (Some p) = ⊥
IsUnfinished fs got = Unit {0}

module _ (then_holds : Phrase → List What → Type 0) (outer : Want) (t : CToken) (what : What) (x : List What) (stands : StandsFor t what) where
  -- the step goes, and the rest goes on behind it
  abbrev GoesTo : Option Reading → Type 0
  GoesTo m = (r : Reading) × ((m ≡ Some r) × ReadsOn then_holds outer r.frames r.got x)

  -- where a symbol is to come, it is the token
  is_symbol : (s : Symbol) (P : List What → Type 0) → Sign s P (what ∷ x) → (t ≡ token.Sym s) × P x
  is_symbol s P f =
      let same : what ≡ piece.Sym s = cc (f.is) in
      let rest : f.rest ≡ x = cc (f.is) in
      (one_token what t (token.Sym s) stands same, subst P rest f.goes_on)

  operand_forward : (w : Want) (fs : List Frame) → OneTokenThen w (Follows then_holds fs) (what ∷ x) → GoesTo (phrase_begins w fs t)
  operand_forward w fs c =
      let same : c.what ≡ what = cc (c.is) in
      let rest : c.rest ≡ x = cc (c.is) in
      let token_is : c.token ≡ t = one_token what c.token t (subst (λ (u : What). StandsFor c.token u) same c.stands) stands in (
        reading fs (Some (AnOperand c.operand)),
        (
          begins_with_operand w fs t c.operand c.allowed (subst (λ (u : CToken). operand_at u ≡ Some c.operand) token_is c.gives),
          subst (λ (y : List What). Follows then_holds fs (AnOperand c.operand) y) rest c.goes_on,
        ),
      )

  begins_forward : (w : Want) (fs : List Frame) → PhraseThen w (Follows then_holds fs) (what ∷ x) → GoesTo (phrase_begins w fs t)
  begins_forward w fs h =
      elim (phrase_opens then_holds w fs (what ∷ x) h) [
        | inl c ↦ operand_forward w fs c
        | inr f ↦
            let s = is_symbol symbol.OpenParen (BehindParen then_holds w fs) f in
            (reading (Open w ∷ fs) None, (ap (phrase_begins w fs) s.0, s.1))
      ]

  open_forward : (w : Want) (fs : List Frame) → BehindParen then_holds w fs (what ∷ x) → GoesTo (negation_or_phrase w fs t)
  open_forward w fs (inl h) = let b = begins_forward (inside w) (Open w ∷ fs) h in (b.0, (begins_behind_paren w fs t b.0 b.1.0, b.1.1))
  open_forward w fs (inr h) =
      let s = is_symbol symbol.Bang (PhraseThen want.Test (Follows then_holds (Negation ∷ fs))) h.1 in (
        reading (Negation ∷ fs) None,
        (
          ap (negation_or_phrase w fs) s.0 ∙ ap (λ (b : Bool). cond b (begun (Negation ∷ fs)) None) h.0,
          s.1,
        ),
      )

  operator_forward : (w : Want) (fs : List Frame) (p : Phrase) → Follows then_holds (Open w ∷ fs) p (what ∷ x) → GoesTo (operated w fs p (operator_at t))
  operator_forward w fs p h =
      let s = is_symbol (symbol_of h.operator) (PhraseThen (side_of h.operator) (λ b. Closes (joined h.operator p b) (Follows then_holds fs))) h.is in
      let o : operator_at t ≡ Some h.operator = ap operator_at s.0 ∙ operator_of_symbol h.operator in
      (reading (Left h.operator p ∷ fs) None, (ap (operated w fs p) o ∙ operator_goes w fs p h.operator h.joins h.side, s.1))

  close_forward : (fs : List Frame) (m : Option Phrase) → Closes m (Follows then_holds fs) (what ∷ x) → GoesTo (closed fs m t)
  close_forward fs m h =
      let c = closed_of m (Follows then_holds fs) (what ∷ x) h in
      let s = is_symbol symbol.CloseParen (Follows then_holds fs c.phrase) c.is in
      (reading fs (Some c.phrase), (ap (closed fs m) s.0 ∙ ap (read_some fs) c.phrase_is, s.1))

  forward : (fs : List Frame) (got : Option Phrase) → IsUnfinished fs got → ReadsOn then_holds outer fs got (what ∷ x) → GoesTo (reads_on outer fs got t)
  forward [] None i h = begins_forward outer [] h
  forward (Open w ∷ fs) None i h = open_forward w fs h
  forward (Left o a ∷ fs) None i h = begins_forward (side_of o) (Left o a ∷ fs) h
  forward (Negation ∷ fs) None i h = begins_forward want.Test (Negation ∷ fs) h
  forward [] (Some p) i h = absurd i
  forward (Open w ∷ fs) (Some p) i h = operator_forward w fs p h
  forward (Left o a ∷ fs) (Some p) i h = close_forward fs (joined o a p) h
  forward (Negation ∷ fs) (Some p) i h = close_forward fs (negated p) h

pub phrase_forward : (then_holds : Phrase → List What → Type 0) (outer : Want) (fs : List Frame) (got : Option Phrase) (t : CToken) (what : What) (x : List What)
    → IsUnfinished fs got → StandsFor t what → ReadsOn then_holds outer fs got (what ∷ x)
    → (r : Reading) × ((reads_on outer fs got t ≡ Some r) × ReadsOn then_holds outer r.frames r.got x)
phrase_forward then_holds outer fs got t what x i s h = forward then_holds outer t what x s fs got i h
