-- Each reading of a phrase goes on somewhere: what is open is closed, with 0ULL or (0ULL < 0ULL) where a phrase is to come.
use Rattle.std.proofs.Common.{◌≡◌, true, List, [], ◌∷◌, Option, Some, None, refl, subst, ◌∙◌, inl}
use Rattle.loop_ir.specs.Statements.{Const, Less}
use Rattle.loop_ir.specs.declared.syntax.WOp.TheVariants as op
use Rattle.c_tokens.specs.Pieces as piece
use Rattle.c_tokens.specs.Pieces.{What}
use Rattle.c_tokens.specs.declared.symbol.Symbol.{Symbol}
use Rattle.c_tokens.specs.declared.symbol.Symbol.TheVariants as symbol
use Rattle.c_grammar.specs.Grammar.{Sign, IsOperand}
use Rattle.c_automaton.specs.declared.forms.Want.{Want}
use Rattle.c_automaton.specs.declared.forms.Want.TheVariants as want
use Rattle.c_automaton.specs.declared.forms.Operator.{Operator}
use Rattle.c_automaton.specs.declared.forms.Operator.TheVariants as operator
use Rattle.c_automaton.specs.Phrases.{Phrase, AnOperand, ATest, Frame, Open, Left, Negation, allows, inside, side_of, may_join, joined, negated, wanted}
use Rattle.c_automaton.proofs.Completions.{IsPhrase, symbol_of, PhraseThen, Closes, Follows, ReadsOn}
use Rattle.c_automaton.proofs.PhraseForms.{joined_allowed, sides_join, negated_allowed, negates}
use Rattle.c_automaton.proofs.PhraseOpens.{closes}
use Rattle.c_automaton.proofs.PhraseStates.{IsSound}

-- ---- some phrase and some operator

-- a phrase of the kind that is wanted
pub some_phrase : Want → Phrase
some_phrase want.Test = ATest (Less (Const 0) (Const 0))
some_phrase w = AnOperand (Const 0)

pub some_phrase_allowed : (w : Want) → allows w (some_phrase w) ≡ true
unfolding some_phrase
some_phrase_allowed want.Operand = refl
some_phrase_allowed want.Test = refl
some_phrase_allowed want.Either = refl

zero_is : (r : List What) → IsOperand (Const 0) (piece.Const 0 ∷ r) r
zero_is r = record { rest = r; is = refl; goes_on = refl }

symbol_then : {then_holds : List What → Type 0} (s : Symbol) (r : List What) → then_holds r → Sign s then_holds (piece.Sym s ∷ r)
symbol_then s r h = record { rest = r; is = refl; goes_on = h }

some_phrase_tokens : (w : Want) (r : List What) → (x : List What) × IsPhrase (some_phrase w) x r
unfolding some_phrase
some_phrase_tokens want.Operand r = (piece.Const 0 ∷ r, zero_is r)
some_phrase_tokens want.Either r = (piece.Const 0 ∷ r, zero_is r)
some_phrase_tokens want.Test r =
    let closing = piece.Sym symbol.CloseParen ∷ r in
    let less = piece.Sym symbol.Less ∷ piece.Const 0 ∷ closing in (
      piece.Sym symbol.OpenParen ∷ piece.Const 0 ∷ less,
      symbol_then symbol.OpenParen (piece.Const 0 ∷ less) (record {
        rest = less;
        phrase_is = zero_is less;
        goes_on = symbol_then symbol.Less (piece.Const 0 ∷ closing) (record { rest = closing; phrase_is = zero_is closing; goes_on = symbol_then symbol.CloseParen r refl });
      }),
    )

phrase_before : (w : Want) (then_holds : Phrase → List What → Type 0) (r : List What) → then_holds (some_phrase w) r → (x : List What) × PhraseThen w then_holds x
phrase_before w then_holds r h =
    let toks = some_phrase_tokens w r in
    (toks.0, record { phrase = some_phrase w; allowed = some_phrase_allowed w; is = record { rest = r; phrase_is = toks.1; goes_on = h } })

-- an operator that may stand behind a phrase in parentheses
some_operator : (w : Want) (p : Phrase) → allows (inside w) p ≡ true → (o : Operator) × ((may_join w o ≡ true) × (allows (side_of o) p ≡ true))
some_operator want.Operand (AnOperand a) e = (operator.Arithmetic op.Add, (refl, refl))
some_operator want.Operand (ATest t) e = absurd cc
some_operator want.Test (AnOperand a) e = (operator.Less, (refl, refl))
some_operator want.Test (ATest t) e = (operator.Both, (refl, refl))
some_operator want.Either (AnOperand a) e = (operator.Less, (refl, refl))
some_operator want.Either (ATest t) e = (operator.Both, (refl, refl))

-- ---- completion

module _ {Q : Type 0} (then_holds : Q → Phrase → List What → Type 0) (outer : Want)
    (ends : (p : Phrase) → allows outer p ≡ true → (q : Q) × ((x : List What) × then_holds q p x)) where
  -- what goes on behind a phrase inside these frames
  abbrev Ended : List Frame → Phrase → Type 0
  Ended fs p = (q : Q) × ((x : List What) × Follows (then_holds q) fs p x)

  -- where a phrase that has been closed goes on, so it does with the ) before it
  record ClosesSome (fs : List Frame) (m : Option Phrase) : Type 0 where
    value : Q
    tokens : List What
    is : Closes m (Follows (then_holds value) fs) tokens

  closes_some : (fs : List Frame) (m : Option Phrase) (p : Phrase) → m ≡ Some p → Ended fs p → ClosesSome fs m
  closes_some fs m p e c = record {
    value = c.0;
    tokens = piece.Sym symbol.CloseParen ∷ c.1.0;
    is = closes m p (Follows (then_holds c.0) fs) _ e (symbol_then symbol.CloseParen c.1.0 c.1.1);
  }

  open_ends : (w : Want) (fs : List Frame) (p : Phrase) (o : Operator) → may_join w o ≡ true → allows (side_of o) p ≡ true → ClosesSome fs (joined o p (some_phrase (side_of o))) → Ended (Open w ∷ fs) p
  open_ends w fs p o e i c =
      let b = phrase_before (side_of o) (λ b. Closes (joined o p b) (Follows (then_holds c.value) fs)) c.tokens c.is in
      (c.value, (piece.Sym (symbol_of o) ∷ b.0, record { operator = o; joins = e; side = i; is = symbol_then (symbol_of o) b.0 b.1 }))

  follows_ends : (fs : List Frame) (p : Phrase) → IsSound outer fs (Some p) → Ended fs p
  follows_ends [] p s = ends p s.1
  follows_ends (Open w ∷ fs) p s =
      let o = some_operator w p s.1 in
      let b = some_phrase (side_of o.0) in
      let j = sides_join o.0 p b o.1.1 (some_phrase_allowed (side_of o.0)) in
      let may : may_join (wanted outer fs) o.0 ≡ true = subst (λ (v : Want). may_join v o.0 ≡ true) s.0.0 o.1.0 in
      let c = follows_ends fs j.0 (s.0.1, joined_allowed (wanted outer fs) o.0 p b j.0 j.1 ∙ may) in
      open_ends w fs p o.0 o.1.0 o.1.1 (closes_some fs (joined o.0 p b) j.0 j.1 c)
  follows_ends (Left o a ∷ fs) p s =
      let j = sides_join o a p s.0.0.1 s.1 in
      let c = closes_some fs (joined o a p) j.0 j.1 (follows_ends fs j.0 (s.0.1, joined_allowed (wanted outer fs) o a p j.0 j.1 ∙ s.0.0.0)) in
      (c.value, (c.tokens, c.is))
  follows_ends (Negation ∷ fs) p s =
      let n = negates p s.1 in
      let c = closes_some fs (negated p) n.0 n.1 (follows_ends fs n.0 (s.0.1, negated_allowed (wanted outer fs) p n.0 n.1 ∙ s.0.0)) in
      (c.value, (c.tokens, c.is))

  -- a phrase of the kind that is wanted begins
  begins_ends : (fs : List Frame) → IsSound outer fs None → (q : Q) × ((x : List What) × PhraseThen (wanted outer fs) (Follows (then_holds q) fs) x)
  begins_ends fs s =
      let c = follows_ends fs (some_phrase (wanted outer fs)) (s.0, some_phrase_allowed (wanted outer fs)) in
      (c.0, phrase_before (wanted outer fs) (Follows (then_holds c.0) fs) c.1.0 c.1.1)

  completion : (fs : List Frame) (got : Option Phrase) → IsSound outer fs got → (q : Q) × ((x : List What) × ReadsOn (then_holds q) outer fs got x)
  completion fs (Some p) s = follows_ends fs p s
  completion [] None s = begins_ends [] s
  completion (Open w ∷ fs) None s = let c = begins_ends (Open w ∷ fs) s in (c.0, (c.1.0, inl c.1.1))
  completion (Left o a ∷ fs) None s = begins_ends (Left o a ∷ fs) s
  completion (Negation ∷ fs) None s = begins_ends (Negation ∷ fs) s

pub phrase_completion : {Q : Type 0} (then_holds : Q → Phrase → List What → Type 0) (outer : Want) (fs : List Frame) (got : Option Phrase)
    → ((p : Phrase) → allows outer p ≡ true → (q : Q) × ((x : List What) × then_holds q p x))
    → IsSound outer fs got → (q : Q) × ((x : List What) × ReadsOn (then_holds q) outer fs got x)
phrase_completion then_holds outer fs got ends s = completion then_holds outer ends fs got s
