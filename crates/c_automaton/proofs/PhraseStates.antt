-- What the frames of a phrase may be: each may stand where it stands, and so may what was read last.
use Rattle.std.proofs.Common.{◌≡◌, true, false, Bool, cond, ◌&&◌, List, [], ◌∷◌, Option, Some, None, refl, subst, ◌∙◌, inl, inr, ◌⊎◌}
use Rattle.loop_ir.specs.Statements.{Operand}
use Rattle.c_tokens.specs.declared.symbol.Symbol.TheVariants as symbol
use Rattle.c_words.specs.declared.token.CToken.{CToken}
use Rattle.c_words.specs.declared.token.CToken.TheVariants as token
use Rattle.c_automaton.specs.declared.forms.Want.{Want}
use Rattle.c_automaton.specs.declared.forms.Operator.{Operator}
use Rattle.c_automaton.specs.Phrases.{Phrase, AnOperand, Frame, Open, Left, Negation, Reading, may_be_operand, may_be_test, allows, inside, side_of, may_join, joined, negated, operator_at, operand_at, wanted, read_where, phrase_begins, negation_or_phrase, operated, read_some, closed, reads_on}
use Rattle.c_automaton.proofs.PhraseForms.{joined_allowed, negated_allowed}

-- ---- steps that go on

-- a reading that goes on
abbrev pub reading : List Frame → Option Phrase → Reading
reading fs got = record { frames = fs; got = got }

pub cond_some : {A : Type 0} (b : Bool) (a r : A) → cond b (Some a) None ≡ Some r → (b ≡ true) × (a ≡ r)
cond_some true a r e = (refl, cc)
cond_some false a r e = absurd cc

pub and_true : (a b : Bool) → (a && b) ≡ true → (a ≡ true) × (b ≡ true)
and_true true true e = (refl, refl)
and_true a b e = absurd cc

-- a phrase began with this token: a (, or an operand of one token
pub record Began (w : Want) (fs : List Frame) (t : CToken) (r : Reading) : Type 0 where
  pub operand : Operand
  pub allowed : may_be_operand w ≡ true
  pub gives : operand_at t ≡ Some operand
  pub reads : reading fs (Some (AnOperand operand)) ≡ r

abbrev pub Opened : Want → List Frame → CToken → Reading → Type 0
Opened w fs t r = (t ≡ token.Sym symbol.OpenParen) × (reading (Open w ∷ fs) None ≡ r)

abbrev pub BeginsTo : Want → List Frame → CToken → Reading → Type 0
BeginsTo w fs t r = Began w fs t r ⊎ Opened w fs t r

began : (w : Want) (fs : List Frame) (t : CToken) (r : Reading) (b : Bool) (a : Option Operand) → may_be_operand w ≡ b → operand_at t ≡ a → read_where b fs a ≡ Some r → Began w fs t r
began w fs t r true (Some a) e i g = record { operand = a; allowed = e; gives = i; reads = cc }
began w fs t r true None e i g = absurd cc
began w fs t r false a e i g = absurd cc

pub begins_to : (w : Want) (fs : List Frame) (t : CToken) (r : Reading) → phrase_begins w fs t ≡ Some r → BeginsTo w fs t r
begins_to w fs (token.Sym symbol.OpenParen) r e = inr (refl, cc)
begins_to w fs t r e = inl (began w fs t r (may_be_operand w) (operand_at t) refl refl e)

-- behind a ( came a !
pub record Negates (w : Want) (fs : List Frame) (t : CToken) (r : Reading) : Type 0 where
  pub allowed : may_be_test w ≡ true
  pub token_is : t ≡ token.Sym symbol.Bang
  pub reads : reading (Negation ∷ fs) None ≡ r

pub negates_or_begins : (w : Want) (fs : List Frame) (t : CToken) (r : Reading) → negation_or_phrase w fs t ≡ Some r → Negates w fs t r ⊎ BeginsTo (inside w) (Open w ∷ fs) t r
negates_or_begins w fs (token.Sym symbol.Bang) r e =
    let both = cond_some (may_be_test w) (reading (Negation ∷ fs) None) r e in
    inl (record { allowed = both.0; token_is = refl; reads = both.1 })
negates_or_begins w fs t r e = inr (begins_to (inside w) (Open w ∷ fs) t r e)

-- an operator came behind a phrase
pub record Operates (w : Want) (fs : List Frame) (p : Phrase) (t : CToken) (r : Reading) : Type 0 where
  pub operator : Operator
  pub gives : operator_at t ≡ Some operator
  pub joins : may_join w operator ≡ true
  pub side : allows (side_of operator) p ≡ true
  pub reads : reading (Left operator p ∷ fs) None ≡ r

pub operates : (w : Want) (fs : List Frame) (p : Phrase) (t : CToken) (r : Reading) (o : Option Operator) → operator_at t ≡ o → operated w fs p o ≡ Some r → Operates w fs p t r
operates w fs p t r (Some o) i e =
    let both = cond_some (may_join w o && allows (side_of o) p) (reading (Left o p ∷ fs) None) r e in
    let parts = and_true (may_join w o) (allows (side_of o) p) both.0 in
    record { operator = o; gives = i; joins = parts.0; side = parts.1; reads = both.1 }
operates w fs p t r None i e = absurd cc

-- a ) came that closed a phrase
pub record ClosesTo (fs : List Frame) (m : Option Phrase) (t : CToken) (r : Reading) : Type 0 where
  pub phrase : Phrase
  pub phrase_is : m ≡ Some phrase
  pub token_is : t ≡ token.Sym symbol.CloseParen
  pub reads : reading fs (Some phrase) ≡ r

closing : (fs : List Frame) (m : Option Phrase) (r : Reading) → read_some fs m ≡ Some r → ClosesTo fs m (token.Sym symbol.CloseParen) r
closing fs (Some p) r e = record { phrase = p; phrase_is = refl; token_is = refl; reads = cc }
closing fs None r e = absurd cc

pub closes_to : (fs : List Frame) (m : Option Phrase) (t : CToken) (r : Reading) → closed fs m t ≡ Some r → ClosesTo fs m t r
closes_to fs m (token.Sym symbol.CloseParen) r e = closing fs m r e
closes_to fs m t r e = absurd cc

-- ---- what the frames may be

-- a frame that may stand inside these
abbrev pub MayStand : Want → Frame → List Frame → Type 0
MayStand outer (Open w) fs = w ≡ wanted outer fs
MayStand outer (Left o a) fs = (may_join (wanted outer fs) o ≡ true) × (allows (side_of o) a ≡ true)
MayStand outer Negation fs = may_be_test (wanted outer fs) ≡ true

abbrev pub AreSound : Want → List Frame → Type 0
AreSound outer [] = Unit {0}
AreSound outer (f ∷ fs) = MayStand outer f fs × AreSound outer fs

abbrev pub IsAllowed : Want → Option Phrase → Type 0
IsAllowed w None = Unit {0}
IsAllowed w (Some p) = allows w p ≡ true

-- each frame may stand where it stands, and so may what was read last
abbrev pub IsSound : Want → List Frame → Option Phrase → Type 0
IsSound outer fs got = AreSound outer fs × IsAllowed (wanted outer fs) got

-- the same of a reading
abbrev pub IsSoundReading : Want → Reading → Type 0
IsSoundReading outer r = IsSound outer r.frames r.got

pub unbegun_sound : (outer : Want) → IsSound outer [] None
unbegun_sound outer = (tt, tt)

module _ (outer : Want) where
  sound_as : (r s : Reading) → r ≡ s → IsSoundReading outer r → IsSoundReading outer s
  sound_as r s e h = subst (λ (u : Reading). IsSoundReading outer u) e h

  begins_sound : (fs : List Frame) (t : CToken) (r : Reading) → AreSound outer fs → BeginsTo (wanted outer fs) fs t r → IsSoundReading outer r
  begins_sound fs t r h (inl b) = sound_as (reading fs (Some (AnOperand b.operand))) r b.reads (h, b.allowed)
  begins_sound fs t r h (inr b) = sound_as (reading (Open (wanted outer fs) ∷ fs) None) r b.1 ((refl, h), tt)

  open_sound : (w : Want) (fs : List Frame) (t : CToken) (r : Reading) → AreSound outer (Open w ∷ fs) → Negates w fs t r ⊎ BeginsTo (inside w) (Open w ∷ fs) t r → IsSoundReading outer r
  open_sound w fs t r h (inl n) =
      sound_as (reading (Negation ∷ fs) None) r n.reads ((subst (λ (v : Want). may_be_test v ≡ true) h.0 n.allowed, h.1), tt)
  open_sound w fs t r h (inr b) = begins_sound (Open w ∷ fs) t r h b

  closes_sound : (fs : List Frame) (m : Option Phrase) (t : CToken) (r : Reading) → AreSound outer fs → ((p : Phrase) → m ≡ Some p → allows (wanted outer fs) p ≡ true) → ClosesTo fs m t r → IsSoundReading outer r
  closes_sound fs m t r h allowed c = sound_as (reading fs (Some c.phrase)) r c.reads (h, allowed c.phrase c.phrase_is)

  -- a token more, and the frames are again such that each may stand where it stands
  pub phrase_sound : (fs : List Frame) (got : Option Phrase) (t : CToken) (r : Reading) → IsSound outer fs got → reads_on outer fs got t ≡ Some r → IsSound outer r.frames r.got
  phrase_sound (Open w ∷ fs) None t r h e = open_sound w fs t r h.0 (negates_or_begins w fs t r e)
  phrase_sound [] None t r h e = begins_sound [] t r h.0 (begins_to outer [] t r e)
  phrase_sound (Left o a ∷ fs) None t r h e = begins_sound (Left o a ∷ fs) t r h.0 (begins_to (side_of o) (Left o a ∷ fs) t r e)
  phrase_sound (Negation ∷ fs) None t r h e = begins_sound (Negation ∷ fs) t r h.0 (begins_to _ (Negation ∷ fs) t r e)
  phrase_sound [] (Some p) t r h e = absurd cc
  phrase_sound (Open w ∷ fs) (Some p) t r h e =
      let c = operates w fs p t r (operator_at t) refl e in
      sound_as (reading (Left c.operator p ∷ fs) None) r c.reads (((subst (λ (v : Want). may_join v c.operator ≡ true) h.0.0 c.joins, c.side), h.0.1), tt)
  phrase_sound (Left o a ∷ fs) (Some p) t r h e =
      closes_sound fs (joined o a p) t r h.0.1 (λ q i. joined_allowed (wanted outer fs) o a p q i ∙ h.0.0.0) (closes_to fs (joined o a p) t r e)
  phrase_sound (Negation ∷ fs) (Some p) t r h e =
      closes_sound fs (negated p) t r h.0.1 (λ q i. negated_allowed (wanted outer fs) p q i ∙ h.0.0) (closes_to fs (negated p) t r e)
