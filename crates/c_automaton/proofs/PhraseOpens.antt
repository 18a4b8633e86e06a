-- A phrase that goes on is an operand of one token, or a ( with what begins behind it.
use Rattle.std.proofs.Common.{◌≡◌, true, List, ◌∷◌, Option, Some, None, refl, sym, subst, ◌∙◌, inl, inr, ◌⊎◌}
use Rattle.loop_ir.specs.Statements.{Operand}
use Rattle.c_tokens.specs.Pieces as piece
use Rattle.c_tokens.specs.Pieces.{What}
use Rattle.c_tokens.specs.declared.symbol.Symbol.TheVariants as symbol
use Rattle.c_grammar.specs.Grammar.{Fixed, Ends, Sign}
use Rattle.c_words.specs.Words.{StandsFor}
use Rattle.c_words.specs.declared.token.CToken.{CToken}
use Rattle.c_automaton.specs.declared.forms.Want.{Want}
use Rattle.c_automaton.specs.Phrases.{Phrase, AnOperand, Frame, Open, may_be_operand, allows, inside, may_join, joined, negated, operand_at}
use Rattle.c_automaton.proofs.Completions.{PhraseThen, Closes, Follows, NegationThen}
use Rattle.c_automaton.proofs.PhraseForms.{joined_allowed, sides_allowed, negated_allowed, negation_side, inside_allowed, one_token_operand, IsOneToken, IsPair, IsNegation, form_of, pair_is, negation_is}

-- ---- a last token, and what follows it

pub token_then : {what : What} {r : List What} {then_holds : List What → Type 0} {x : List What} → Fixed what (Ends r) x → then_holds r → Fixed what then_holds x
token_then {then_holds} f h = record { rest = f.rest; is = f.is; goes_on = subst then_holds (sym f.goes_on) h }

pub closes : (m : Option Phrase) (p : Phrase) (then_holds : Phrase → List What → Type 0) (x : List What) → m ≡ Some p → Sign symbol.CloseParen (then_holds p) x → Closes m then_holds x
closes m p then_holds x e f = subst (λ (n : Option Phrase). Closes n then_holds x) (sym e) f

-- a ) closes a phrase
pub record Closed (m : Option Phrase) (then_holds : Phrase → List What → Type 0) (x : List What) : Type 0 where
  pub phrase : Phrase
  pub phrase_is : m ≡ Some phrase
  pub is : Sign symbol.CloseParen (then_holds phrase) x

pub closed_of : (m : Option Phrase) (then_holds : Phrase → List What → Type 0) (x : List What) → Closes m then_holds x → Closed m then_holds x
closed_of (Some p) then_holds x f = record { phrase = p; phrase_is = refl; is = f }
closed_of None then_holds x f = absurd f

-- an operand of one token, and then something holds of it and of the rest
pub record OneTokenThen (w : Want) (then_holds : Phrase → List What → Type 0) (x : List What) : Type 0 where
  pub operand : Operand
  pub allowed : may_be_operand w ≡ true
  pub token : CToken
  pub gives : operand_at token ≡ Some operand
  pub what : What
  pub stands : StandsFor token what
  pub rest : List What
  pub is : x ≡ what ∷ rest
  pub goes_on : then_holds (AnOperand operand) rest

module _ (then_holds : Phrase → List What → Type 0) (w : Want) (fs : List Frame) where
  abbrev Rest : Phrase → List What → Type 0
  Rest = Follows then_holds fs

  -- what begins behind the (
  abbrev pub BehindParen : List What → Type 0
  BehindParen x = PhraseThen (inside w) (Follows then_holds (Open w ∷ fs)) x ⊎ NegationThen then_holds w fs x

  abbrev pub Opens : List What → Type 0
  Opens x = OneTokenThen w Rest x ⊎ Sign symbol.OpenParen BehindParen x

  one_token_opens : (p : Phrase) (x r : List What) → allows w p ≡ true → Rest p r → IsOneToken p x r → OneTokenThen w Rest x
  one_token_opens p x r allowed h f = record {
    operand = f.operand;
    allowed = subst (λ (q : Phrase). allows w q ≡ true) f.phrase_is allowed;
    token = f.token;
    gives = f.gives;
    what = f.what;
    stands = f.stands;
    rest = r;
    is = f.is;
    goes_on = subst (λ (q : Phrase). Rest q r) f.phrase_is h;
  }

  pair_opens : (p : Phrase) (x r : List What) → allows w p ≡ true → Rest p r → IsPair p x r → Sign symbol.OpenParen BehindParen x
  pair_opens p x r allowed h f =
      let sides = sides_allowed f.between f.left f.right p f.joins in
      let may : may_join w f.between ≡ true = sym (joined_allowed w f.between f.left f.right p f.joins) ∙ allowed in
      let l = f.is.goes_on in
      let o = l.goes_on in
      let b = o.goes_on in
      record {
        rest = f.is.rest;
        is = f.is.is;
        goes_on = inl (record {
          phrase = f.left;
          allowed = inside_allowed w f.between f.left may sides.0;
          is = record {
            rest = l.rest;
            phrase_is = l.phrase_is;
            goes_on = record {
              operator = f.between;
              joins = may;
              side = sides.0;
              is = record {
                rest = o.rest;
                is = o.is;
                goes_on = record {
                  phrase = f.right;
                  allowed = sides.1;
                  is = record {
                    rest = b.rest;
                    phrase_is = b.phrase_is;
                    goes_on = closes (joined f.between f.left f.right) p Rest b.rest f.joins (token_then b.goes_on h);
                  };
                };
              };
            };
          };
        });
      }

  negation_opens : (p : Phrase) (x r : List What) → allows w p ≡ true → Rest p r → IsNegation p x r → Sign symbol.OpenParen BehindParen x
  negation_opens p x r allowed h f =
      let bang = f.is.goes_on in
      let t = bang.goes_on in
      record {
        rest = f.is.rest;
        is = f.is.is;
        goes_on = inr (
          sym (negated_allowed w f.inner p f.negated_is) ∙ allowed,
          record {
            rest = bang.rest;
            is = bang.is;
            goes_on = record {
              phrase = f.inner;
              allowed = negation_side f.inner p f.negated_is;
              is = record {
                rest = t.rest;
                phrase_is = t.phrase_is;
                goes_on = closes (negated f.inner) p Rest t.rest f.negated_is (token_then t.goes_on h);
              };
            };
          },
        );
      }

  pub phrase_opens : (x : List What) → PhraseThen w Rest x → Opens x
  phrase_opens x h =
      elim (form_of h.phrase x h.is.rest h.is.phrase_is) [
        | inl f ↦ inl (one_token_opens h.phrase x h.is.rest h.allowed h.is.goes_on f)
        | inr (inl f) ↦ inr (pair_opens h.phrase x h.is.rest h.allowed h.is.goes_on f)
        | inr (inr f) ↦ inr (negation_opens h.phrase x h.is.rest h.allowed h.is.goes_on f)
      ]

  pub one_token_then : (a : Operand) (t : CToken) (what : What) (x : List What) → may_be_operand w ≡ true → operand_at t ≡ Some a → StandsFor t what → Rest (AnOperand a) x → PhraseThen w Rest (what ∷ x)
  one_token_then a t what x allowed e s h =
      record { phrase = AnOperand a; allowed = allowed; is = record { rest = x; phrase_is = one_token_operand a t what x e s; goes_on = h } }

  pair_then : (x rest : List What) → x ≡ piece.Sym symbol.OpenParen ∷ rest → PhraseThen (inside w) (Follows then_holds (Open w ∷ fs)) rest → PhraseThen w Rest x
  pair_then x rest is h =
      let o = h.is.goes_on in
      let b = o.is.goes_on in
      let c = closed_of (joined o.operator h.phrase b.phrase) Rest b.is.rest b.is.goes_on in
      record {
        phrase = c.phrase;
        allowed = joined_allowed w o.operator h.phrase b.phrase c.phrase c.phrase_is ∙ o.joins;
        is = record {
          rest = c.is.rest;
          phrase_is = pair_is o.operator h.phrase b.phrase c.phrase x c.is.rest c.phrase_is (record {
            rest = rest;
            is = is;
            goes_on = record {
              rest = h.is.rest;
              phrase_is = h.is.phrase_is;
              goes_on = record {
                rest = o.is.rest;
                is = o.is.is;
                goes_on = record { rest = b.is.rest; phrase_is = b.is.phrase_is; goes_on = record { rest = c.is.rest; is = c.is.is; goes_on = refl } };
              };
            };
          });
          goes_on = c.is.goes_on;
        };
      }

  negation_then : (x rest : List What) → x ≡ piece.Sym symbol.OpenParen ∷ rest → NegationThen then_holds w fs rest → PhraseThen w Rest x
  negation_then x rest is h =
      let t = h.1.goes_on in
      let c = closed_of (negated t.phrase) Rest t.is.rest t.is.goes_on in
      record {
        phrase = c.phrase;
        allowed = negated_allowed w t.phrase c.phrase c.phrase_is ∙ h.0;
        is = record {
          rest = c.is.rest;
          phrase_is = negation_is t.phrase c.phrase x c.is.rest c.phrase_is (record {
            rest = rest;
            is = is;
            goes_on = record {
              rest = h.1.rest;
              is = h.1.is;
              goes_on = record { rest = t.is.rest; phrase_is = t.is.phrase_is; goes_on = record { rest = c.is.rest; is = c.is.is; goes_on = refl } };
            };
          });
          goes_on = c.is.goes_on;
        };
      }

  pub paren_then : (x : List What) → Sign symbol.OpenParen BehindParen x → PhraseThen w Rest x
  paren_then x f =
      elim f.goes_on [
        | inl h ↦ pair_then x f.rest f.is h
        | inr h ↦ negation_then x f.rest f.is h
      ]
