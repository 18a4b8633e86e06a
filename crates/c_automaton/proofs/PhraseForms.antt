-- What the tokens of a phrase are: an operand of one token; or in parentheses two phrases with an operator between them, or ! and a test.
use Rattle.std.proofs.Common.{◌≡◌, true, List, ◌∷◌, Some, refl, ap, subst, ◌∙◌, inl, inr, ◌⊎◌}
use Rattle.loop_ir.specs.Statements.{Operand, Const, Var, Len, Int, Bin, Less, Same, Both, Either, Not}
use Rattle.c_tokens.specs.Pieces as piece
use Rattle.c_tokens.specs.Pieces.{What}
use Rattle.c_tokens.specs.declared.symbol.Symbol.TheVariants as symbol
use Rattle.c_grammar.specs.Grammar.{Fixed, Then, Ends, Sign, IsOperand}
use Rattle.c_words.specs.Words.{StandsFor}
use Rattle.c_words.specs.declared.token.CToken.{CToken}
use Rattle.c_words.specs.declared.token.CToken.TheVariants as token
use Rattle.c_words.specs.declared.token.Letter.TheVariants as letter
use Rattle.c_automaton.specs.declared.forms.Want.{Want}
use Rattle.c_automaton.specs.declared.forms.Want.TheVariants as want
use Rattle.c_automaton.specs.declared.forms.Operator.{Operator}
use Rattle.c_automaton.specs.declared.forms.Operator.TheVariants as operator
use Rattle.c_automaton.specs.Phrases.{Phrase, AnOperand, ATest, may_be_test, allows, inside, side_of, may_join, joined, negated, operand_at}
use Rattle.c_automaton.proofs.Completions.{IsPhrase, symbol_of}

-- ---- what may stand where

-- what an operator makes of its sides may stand where the operator may be
pub joined_allowed : (w : Want) (o : Operator) (a b p : Phrase) → joined o a b ≡ Some p → allows w p ≡ may_join w o
joined_allowed w (operator.Arithmetic o) (AnOperand a) (AnOperand b) p e = let same : p ≡ AnOperand (Bin o a b) = cc in ap (allows w) same
joined_allowed w operator.Less (AnOperand a) (AnOperand b) p e = let same : p ≡ ATest (Less a b) = cc in ap (allows w) same
joined_allowed w operator.Same (AnOperand a) (AnOperand b) p e = let same : p ≡ ATest (Same a b) = cc in ap (allows w) same
joined_allowed w operator.Both (ATest t) (ATest u) p e = let same : p ≡ ATest (Both t u) = cc in ap (allows w) same
joined_allowed w operator.Either (ATest t) (ATest u) p e = let same : p ≡ ATest (Either t u) = cc in ap (allows w) same
joined_allowed w o a b p e = absurd cc

-- an operator makes something of two phrases just where it may stand between them
pub sides_allowed : (o : Operator) (a b p : Phrase) → joined o a b ≡ Some p → (allows (side_of o) a ≡ true) × (allows (side_of o) b ≡ true)
sides_allowed (operator.Arithmetic o) (AnOperand a) (AnOperand b) p e = (refl, refl)
sides_allowed operator.Less (AnOperand a) (AnOperand b) p e = (refl, refl)
sides_allowed operator.Same (AnOperand a) (AnOperand b) p e = (refl, refl)
sides_allowed operator.Both (ATest t) (ATest u) p e = (refl, refl)
sides_allowed operator.Either (ATest t) (ATest u) p e = (refl, refl)
sides_allowed o a b p e = absurd cc

pub sides_join : (o : Operator) (a b : Phrase) → allows (side_of o) a ≡ true → allows (side_of o) b ≡ true → (p : Phrase) × (joined o a b ≡ Some p)
sides_join (operator.Arithmetic o) (AnOperand a) (AnOperand b) e i = (AnOperand (Bin o a b), refl)
sides_join operator.Less (AnOperand a) (AnOperand b) e i = (ATest (Less a b), refl)
sides_join operator.Same (AnOperand a) (AnOperand b) e i = (ATest (Same a b), refl)
sides_join operator.Both (ATest t) (ATest u) e i = (ATest (Both t u), refl)
sides_join operator.Either (ATest t) (ATest u) e i = (ATest (Either t u), refl)
sides_join o a b e i = absurd cc

pub negated_allowed : (w : Want) (a p : Phrase) → negated a ≡ Some p → allows w p ≡ may_be_test w
negated_allowed w (ATest t) p e = let same : p ≡ ATest (Not t) = cc in ap (allows w) same
negated_allowed w (AnOperand a) p e = absurd cc

pub negation_side : (a p : Phrase) → negated a ≡ Some p → allows want.Test a ≡ true
negation_side (ATest t) p e = refl
negation_side (AnOperand a) p e = absurd cc

pub negates : (a : Phrase) → allows want.Test a ≡ true → (p : Phrase) × (negated a ≡ Some p)
negates (ATest t) e = (ATest (Not t), refl)
negates (AnOperand a) e = absurd cc

-- a side of an operator may stand first in parentheses that the operator may be in
pub inside_allowed : (w : Want) (o : Operator) (p : Phrase) → may_join w o ≡ true → allows (side_of o) p ≡ true → allows (inside w) p ≡ true
inside_allowed want.Operand (operator.Arithmetic o) p e i = i
inside_allowed want.Test o (AnOperand a) e i = refl
inside_allowed want.Test o (ATest t) e i = refl
inside_allowed want.Either o (AnOperand a) e i = refl
inside_allowed want.Either o (ATest t) e i = refl
inside_allowed w o p e i = absurd cc

-- ---- operands of one token

pub one_token_operand : (a : Operand) (t : CToken) (what : What) (r : List What) → operand_at t ≡ Some a → StandsFor t what → IsOperand a (what ∷ r) r
one_token_operand a (token.Constant n) what r e s =
    let same : Const n ≡ a = cc in
    subst (λ (b : Operand). IsOperand b (what ∷ r) r) same (record { rest = r; is = ap (λ (w : What). w ∷ r) s; goes_on = refl })
one_token_operand a (token.Name letter.Variable v) what r e s =
    let same : Var v ≡ a = cc in
    subst (λ (b : Operand). IsOperand b (what ∷ r) r) same (record { small = s.0; fixed = record { rest = r; is = ap (λ (w : What). w ∷ r) s.1; goes_on = refl } })
one_token_operand a (token.Name letter.Length v) what r e s =
    let same : Len v ≡ a = cc in
    subst (λ (b : Operand). IsOperand b (what ∷ r) r) same (record { small = s.0; fixed = record { rest = r; is = ap (λ (w : What). w ∷ r) s.1; goes_on = refl } })
one_token_operand a (token.Name letter.Int v) what r e s =
    let same : Int v ≡ a = cc in
    subst (λ (b : Operand). IsOperand b (what ∷ r) r) same (record { small = s.0; fixed = record { rest = r; is = ap (λ (w : What). w ∷ r) s.1; goes_on = refl } })
one_token_operand a t what r e s = absurd cc

-- ---- the forms of a phrase

-- an operand of one token
pub record IsOneToken (p : Phrase) (x r : List What) : Type 0 where
  pub operand : Operand
  pub phrase_is : p ≡ AnOperand operand
  pub token : CToken
  pub gives : operand_at token ≡ Some operand
  pub what : What
  pub stands : StandsFor token what
  pub is : x ≡ what ∷ r

-- two phrases with an operator between them, in parentheses
abbrev pub InParentheses : Phrase → Operator → Phrase → List What → List What → Type 0
InParentheses a o b x r = Sign symbol.OpenParen (Then (IsPhrase a) (Sign (symbol_of o) (Then (IsPhrase b) (Sign symbol.CloseParen (Ends r))))) x

pub record IsPair (p : Phrase) (x r : List What) : Type 0 where
  pub left : Phrase
  pub between : Operator
  pub right : Phrase
  pub joins : joined between left right ≡ Some p
  pub is : InParentheses left between right x r

-- ! and a test, in parentheses
abbrev pub BehindBang : Phrase → List What → List What → Type 0
BehindBang a x r = Sign symbol.OpenParen (Sign symbol.Bang (Then (IsPhrase a) (Sign symbol.CloseParen (Ends r)))) x

pub record IsNegation (p : Phrase) (x r : List What) : Type 0 where
  pub inner : Phrase
  pub negated_is : negated inner ≡ Some p
  pub is : BehindBang inner x r

abbrev pub HasForm : Phrase → List What → List What → Type 0
HasForm p x r = IsOneToken p x r ⊎ (IsPair p x r ⊎ IsNegation p x r)

only_token : {what : What} {x r : List What} → Fixed what (Ends r) x → x ≡ what ∷ r
only_token {what} {x} {r} f = f.is ∙ ap (λ (y : List What). what ∷ y) f.goes_on

pub form_of : (p : Phrase) (x r : List What) → IsPhrase p x r → HasForm p x r
form_of (AnOperand (Const n)) x r f =
    inl (record { operand = Const n; phrase_is = refl; token = token.Constant n; gives = refl; what = piece.Const n; stands = refl; is = only_token f })
form_of (AnOperand (Var v)) x r f =
    inl (record { operand = Var v; phrase_is = refl; token = token.Name letter.Variable v; gives = refl; what = _; stands = (f.small, refl); is = only_token f.fixed })
form_of (AnOperand (Len v)) x r f =
    inl (record { operand = Len v; phrase_is = refl; token = token.Name letter.Length v; gives = refl; what = _; stands = (f.small, refl); is = only_token f.fixed })
form_of (AnOperand (Int v)) x r f =
    inl (record { operand = Int v; phrase_is = refl; token = token.Name letter.Int v; gives = refl; what = _; stands = (f.small, refl); is = only_token f.fixed })
form_of (AnOperand (Bin o a b)) x r f = inr (inl (record { left = AnOperand a; between = operator.Arithmetic o; right = AnOperand b; joins = refl; is = f }))
form_of (ATest (Less a b)) x r f = inr (inl (record { left = AnOperand a; between = operator.Less; right = AnOperand b; joins = refl; is = f }))
form_of (ATest (Same a b)) x r f = inr (inl (record { left = AnOperand a; between = operator.Same; right = AnOperand b; joins = refl; is = f }))
form_of (ATest (Both t u)) x r f = inr (inl (record { left = ATest t; between = operator.Both; right = ATest u; joins = refl; is = f }))
form_of (ATest (Either t u)) x r f = inr (inl (record { left = ATest t; between = operator.Either; right = ATest u; joins = refl; is = f }))
form_of (ATest (Not t)) x r f = inr (inr (record { inner = ATest t; negated_is = refl; is = f }))

pub pair_is : (o : Operator) (a b p : Phrase) (x r : List What) → joined o a b ≡ Some p → InParentheses a o b x r → IsPhrase p x r
pair_is (operator.Arithmetic o) (AnOperand a) (AnOperand b) p x r e f =
    let same : AnOperand (Bin o a b) ≡ p = cc in subst (λ (q : Phrase). IsPhrase q x r) same f
pair_is operator.Less (AnOperand a) (AnOperand b) p x r e f =
    let same : ATest (Less a b) ≡ p = cc in subst (λ (q : Phrase). IsPhrase q x r) same f
pair_is operator.Same (AnOperand a) (AnOperand b) p x r e f =
    let same : ATest (Same a b) ≡ p = cc in subst (λ (q : Phrase). IsPhrase q x r) same f
pair_is operator.Both (ATest t) (ATest u) p x r e f =
    let same : ATest (Both t u) ≡ p = cc in subst (λ (q : Phrase). IsPhrase q x r) same f
pair_is operator.Either (ATest t) (ATest u) p x r e f =
    let same : ATest (Either t u) ≡ p = cc in subst (λ (q : Phrase). IsPhrase q x r) same f
pair_is o a b p x r e f = absurd cc

pub negation_is : (a p : Phrase) (x r : List What) → negated a ≡ Some p → BehindBang a x r → IsPhrase p x r
negation_is (ATest t) p x r e f = let same : ATest (Not t) ≡ p = cc in subst (λ (q : Phrase). IsPhrase q x r) same f
negation_is (AnOperand a) p x r e f = absurd cc
