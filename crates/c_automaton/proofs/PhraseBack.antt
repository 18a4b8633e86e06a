-- A token of a phrase, backward: what goes on behind the token that leads to a reading goes on, with the token before it, where it was read.
use Rattle.std.proofs.Common.{◌≡◌, List, [], ◌∷◌, Option, Some, None, refl, sym, ap, subst, ◌∙◌, inl, inr, ◌⊎◌}
use Rattle.loop_ir.specs.declared.syntax.WOp.TheVariants as op
use Rattle.c_tokens.specs.Pieces as piece
use Rattle.c_tokens.specs.Pieces.{What}
use Rattle.c_tokens.specs.declared.symbol.Symbol.{Symbol}
use Rattle.c_tokens.specs.declared.symbol.Symbol.TheVariants as symbol
use Rattle.c_grammar.specs.Grammar.{Sign}
use Rattle.c_words.specs.Words.{StandsFor}
use Rattle.c_words.specs.declared.token.CToken.{CToken}
use Rattle.c_words.specs.declared.token.CToken.TheVariants as token
use Rattle.c_automaton.specs.declared.forms.Want.{Want}
use Rattle.c_automaton.specs.declared.forms.Want.TheVariants as want
use Rattle.c_automaton.specs.declared.forms.Operator.{Operator}
use Rattle.c_automaton.specs.declared.forms.Operator.TheVariants as operator
use Rattle.c_automaton.specs.Phrases.{Phrase, AnOperand, Frame, Open, Left, Negation, Reading, inside, side_of, joined, negated, operator_at, reads_on}
use Rattle.c_automaton.proofs.Completions.{symbol_of, PhraseThen, Closes, Follows, ReadsOn}
use Rattle.c_automaton.proofs.PhraseOpens.{BehindParen, closes, one_token_then, paren_then}
use Rattle.c_automaton.proofs.PhraseStates.{reading, BeginsTo, begins_to, Negates, negates_or_begins, Operates, operates, ClosesTo, closes_to}

same_operator : (o p : Operator) (what : What) → Some o ≡ Some p → what ≡ piece.Sym (symbol_of o) → what ≡ piece.Sym (symbol_of p)
same_operator o p what e s = let same : o ≡ p = cc in s ∙ ap (λ (q : Operator). piece.Sym (symbol_of q)) same

-- the token that an operator is read from stands for its symbol
pub operator_symbol : (t : CToken) (o : Operator) (what : What) → operator_at t ≡ Some o → StandsFor t what → what ≡ piece.Sym (symbol_of o)
operator_symbol (token.Sym symbol.Plus) o what e s = same_operator (operator.Arithmetic op.Add) o what e s
operator_symbol (token.Sym symbol.Minus) o what e s = same_operator (operator.Arithmetic op.Sub) o what e s
operator_symbol (token.Sym symbol.Star) o what e s = same_operator (operator.Arithmetic op.Mul) o what e s
operator_symbol (token.Sym symbol.Slash) o what e s = same_operator (operator.Arithmetic op.Div) o what e s
operator_symbol (token.Sym symbol.Percent) o what e s = same_operator (operator.Arithmetic op.Rem) o what e s
operator_symbol (token.Sym symbol.Caret) o what e s = same_operator (operator.Arithmetic op.Xor) o what e s
operator_symbol (token.Sym symbol.Less) o what e s = same_operator operator.Less o what e s
operator_symbol (token.Sym symbol.EqualEqual) o what e s = same_operator operator.Same o what e s
operator_symbol (token.Sym symbol.AndAnd) o what e s = same_operator operator.Both o what e s
operator_symbol (token.Sym symbol.BarBar) o what e s = same_operator operator.Either o what e s
operator_symbol t o what e s = absurd cc

module _ (then_holds : Phrase → List What → Type 0) (outer : Want) (t : CToken) (what : What) (x : List What) (stands : StandsFor t what) where
  -- what goes on behind the token in this reading
  abbrev Onward : Reading → Type 0
  Onward r = ReadsOn then_holds outer r.frames r.got x

  onward_as : (r s : Reading) → r ≡ s → Onward s → Onward r
  onward_as r s e h = subst Onward (sym e) h

  -- the token is this symbol
  symbol_before : (s : Symbol) (P : List What → Type 0) → t ≡ token.Sym s → P x → Sign s P (what ∷ x)
  symbol_before s P e h =
      let is : what ≡ piece.Sym s = subst (λ (u : CToken). StandsFor u what) e stands in
      record { rest = x; is = ap (λ (w : What). w ∷ x) is; goes_on = h }

  begins_back : (w : Want) (fs : List Frame) (r : Reading) → BeginsTo w fs t r → Onward r → PhraseThen w (Follows then_holds fs) (what ∷ x)
  begins_back w fs r (inl b) h = one_token_then then_holds w fs b.operand t what x b.allowed b.gives stands (onward_as (reading fs (Some (AnOperand b.operand))) r b.reads h)
  begins_back w fs r (inr b) h =
      paren_then then_holds w fs (what ∷ x)
      (symbol_before symbol.OpenParen (BehindParen then_holds w fs) b.0 (onward_as (reading (Open w ∷ fs) None) r b.1 h))

  open_back : (w : Want) (fs : List Frame) (r : Reading) → Negates w fs t r ⊎ BeginsTo (inside w) (Open w ∷ fs) t r → Onward r → BehindParen then_holds w fs (what ∷ x)
  open_back w fs r (inl n) h = inr (n.allowed, symbol_before symbol.Bang (PhraseThen want.Test (Follows then_holds (Negation ∷ fs))) n.token_is (onward_as (reading (Negation ∷ fs) None) r n.reads h))
  open_back w fs r (inr b) h = inl (begins_back (inside w) (Open w ∷ fs) r b h)

  operates_back : (w : Want) (fs : List Frame) (p : Phrase) (r : Reading) → Operates w fs p t r → Onward r → Follows then_holds (Open w ∷ fs) p (what ∷ x)
  operates_back w fs p r c h = record {
    operator = c.operator;
    joins = c.joins;
    side = c.side;
    is = record {
      rest = x;
      is = ap (λ (u : What). u ∷ x) (operator_symbol t c.operator what c.gives stands);
      goes_on = onward_as (reading (Left c.operator p ∷ fs) None) r c.reads h;
    };
  }

  closes_back : (fs : List Frame) (m : Option Phrase) (r : Reading) → ClosesTo fs m t r → Onward r → Closes m (Follows then_holds fs) (what ∷ x)
  closes_back fs m r c h =
      closes m c.phrase (Follows then_holds fs) (what ∷ x) c.phrase_is
      (symbol_before symbol.CloseParen (Follows then_holds fs c.phrase) c.token_is (onward_as (reading fs (Some c.phrase)) r c.reads h))

  back : (fs : List Frame) (got : Option Phrase) (r : Reading) → reads_on outer fs got t ≡ Some r → Onward r → ReadsOn then_holds outer fs got (what ∷ x)
  back [] None r e h = begins_back outer [] r (begins_to outer [] t r e) h
  back (Open w ∷ fs) None r e h = open_back w fs r (negates_or_begins w fs t r e) h
  back (Left o a ∷ fs) None r e h = begins_back (side_of o) (Left o a ∷ fs) r (begins_to (side_of o) (Left o a ∷ fs) t r e) h
  back (Negation ∷ fs) None r e h = begins_back want.Test (Negation ∷ fs) r (begins_to want.Test (Negation ∷ fs) t r e) h
  back [] (Some p) r e h = absurd cc
  back (Open w ∷ fs) (Some p) r e h = operates_back w fs p r (operates w fs p t r (operator_at t) refl e) h
  back (Left o a ∷ fs) (Some p) r e h = closes_back fs (joined o a p) r (closes_to fs (joined o a p) t r e) h
  back (Negation ∷ fs) (Some p) r e h = closes_back fs (negated p) r (closes_to fs (negated p) t r e) h

pub phrase_back : (then_holds : Phrase → List What → Type 0) (outer : Want) (fs : List Frame) (got : Option Phrase) (t : CToken) (what : What) (x : List What) (r : Reading)
    → StandsFor t what → reads_on outer fs got t ≡ Some r → ReadsOn then_holds outer r.frames r.got x → ReadsOn then_holds outer fs got (what ∷ x)
phrase_back then_holds outer fs got t what x r s e h = back then_holds outer t what x s fs got r e h
