-- Two tests that the same tokens begin with are one, and leave the same rest.
use Rattle.std.proofs.Common.{◌≡◌, List, ◌∷◌, refl, sym}
use Rattle.std.specs.Prelude.{false, ◌==◌}
use Rattle.c_tokens.specs.declared.symbol.Symbol.{Symbol}
use Rattle.c_tokens.specs.declared.symbol.Symbol.TheVariants as symbol
use Rattle.c_tokens.specs.Pieces.{What, Sym}
use Rattle.c_grammar.specs.Grammar.{Then, Sign, Ends, sign_of, IsOperand, IsTest}
use Rattle.loop_ir.specs.declared.syntax.WOp.{WOp}
use Rattle.loop_ir.specs.declared.syntax.WOp.TheVariants as op
use Rattle.loop_ir.specs.Statements.{Operand, Const, Var, Len, Int, Bin, Test, Less, Same, Both, Either, Not}
use Rattle.c_grammar.proofs.FirstTokens.{first_mark, first_mark_is, marks_apart}
use Rattle.c_grammar.proofs.OneOperand.{operand_mark, operand_begins, one_operand}

pub test_begins : (t : Test) (x r : List What) → IsTest t x r → first_mark x ≡ 3
test_begins (Less a b) x r f = first_mark_is f.is
test_begins (Same a b) x r f = first_mark_is f.is
test_begins (Both a b) x r f = first_mark_is f.is
test_begins (Either a b) x r f = first_mark_is f.is
test_begins (Not a) x r f = first_mark_is f.is

-- no operand and no test begins with !
symbol_begins_no_operand : (a : Operand) → (operand_mark a == 4) ≡ false
symbol_begins_no_operand (Const n) = refl
symbol_begins_no_operand (Var k) = refl
symbol_begins_no_operand (Len k) = refl
symbol_begins_no_operand (Int k) = refl
symbol_begins_no_operand (Bin p a b) = refl

no_operand_begins_with_bang : (a : Operand) (x y r rest : List What) → x ≡ y → IsOperand a x r → y ≡ Sym symbol.Bang ∷ rest → ⊥
no_operand_begins_with_bang a x y r rest e f b =
    marks_apart (operand_mark a) 4 e (operand_begins a _ _ f) (first_mark_is b) (symbol_begins_no_operand a)

no_test_begins_with_bang : (t : Test) (x y r rest : List What) → x ≡ y → IsTest t x r → y ≡ Sym symbol.Bang ∷ rest → ⊥
no_test_begins_with_bang t x y r rest e f b = marks_apart 3 4 e (test_begins t _ _ f) (first_mark_is b) refl

-- no operation has the sign of a comparison
less_is_no_operation : (p : WOp) → sign_of p ≡ symbol.Less → ⊥
less_is_no_operation op.Add e = absurd (cc)
less_is_no_operation op.Sub e = absurd (cc)
less_is_no_operation op.Mul e = absurd (cc)
less_is_no_operation op.Div e = absurd (cc)
less_is_no_operation op.Rem e = absurd (cc)
less_is_no_operation op.Xor e = absurd (cc)

same_is_no_operation : (p : WOp) → sign_of p ≡ symbol.EqualEqual → ⊥
same_is_no_operation op.Add e = absurd (cc)
same_is_no_operation op.Sub e = absurd (cc)
same_is_no_operation op.Mul e = absurd (cc)
same_is_no_operation op.Div e = absurd (cc)
same_is_no_operation op.Rem e = absurd (cc)
same_is_no_operation op.Xor e = absurd (cc)

-- nothing is both an operand and a test
no_operand_is_a_test : (a : Operand) (t : Test) (x y r s : List What) → x ≡ y → IsOperand a x r → IsTest t y s → ⊥
no_operand_is_a_test (Bin p a c) (Less b d) x y r s e f g =
    let left = one_operand a b _ _ _ _ (cc) f.goes_on.phrase_is g.goes_on.phrase_is in
    less_is_no_operation p (cc)
no_operand_is_a_test (Bin p a c) (Same b d) x y r s e f g =
    let left = one_operand a b _ _ _ _ (cc) f.goes_on.phrase_is g.goes_on.phrase_is in
    same_is_no_operation p (cc)
no_operand_is_a_test (Bin p a c) (Both t u) x y r s e f g =
    no_operand_is_a_test a t _ _ _ _ (cc) f.goes_on.phrase_is g.goes_on.phrase_is
no_operand_is_a_test (Bin p a c) (Either t u) x y r s e f g =
    no_operand_is_a_test a t _ _ _ _ (cc) f.goes_on.phrase_is g.goes_on.phrase_is
no_operand_is_a_test (Bin p a c) (Not t) x y r s e f g =
    no_operand_begins_with_bang a _ _ _ _ (cc) f.goes_on.phrase_is g.goes_on.is
no_operand_is_a_test a t x y r s e f g =
    marks_apart (operand_mark a) 3 e (operand_begins a _ _ f) (test_begins t _ _ g) refl

-- two phrases in parentheses, with a sign between them
one_pair : {A B C D : List What → List What → Type 0} {E F : Type 0} {m n : Symbol} →
    ((x y r s : List What) → x ≡ y → A x r → B y s → E × (r ≡ s)) →
    ((x y r s : List What) → x ≡ y → C x r → D y s → F × (r ≡ s)) →
    (x y r s : List What) → x ≡ y →
    Sign symbol.OpenParen (Then A (Sign m (Then C (Sign symbol.CloseParen (Ends r))))) x →
    Sign symbol.OpenParen (Then B (Sign n (Then D (Sign symbol.CloseParen (Ends s))))) y → E × (m ≡ n) × F × (r ≡ s)
one_pair one_left one_right x y r s e f g =
    let left = one_left _ _ _ _ (cc) f.goes_on.phrase_is g.goes_on.phrase_is in
    let right = one_right _ _ _ _ (cc) f.goes_on.goes_on.goes_on.phrase_is g.goes_on.goes_on.goes_on.phrase_is in
    (left.0, (cc), right.0, (cc))

-- what stands behind ( tells two phrases apart
apart_in_parentheses : {A B : List What → List What → Type 0} {P Q : List What → Type 0} →
    ((x y r s : List What) → x ≡ y → A x r → B y s → ⊥) →
    (x y : List What) → x ≡ y → Sign symbol.OpenParen (Then A P) x → Sign symbol.OpenParen (Then B Q) y → ⊥
apart_in_parentheses apart x y e f g = apart _ _ _ _ (cc) f.goes_on.phrase_is g.goes_on.phrase_is

apart_by_bang : {A : List What → List What → Type 0} {P Q : List What → Type 0} →
    ((x y r rest : List What) → x ≡ y → A x r → y ≡ Sym symbol.Bang ∷ rest → ⊥) →
    (x y : List What) → x ≡ y → Sign symbol.OpenParen (Then A P) x → Sign symbol.OpenParen (Sign symbol.Bang Q) y → ⊥
apart_by_bang apart x y e f g = apart _ _ _ _ (cc) f.goes_on.phrase_is g.goes_on.is

no_test_is_an_operand : (t : Test) (a : Operand) (x y r s : List What) → x ≡ y → IsTest t x r → IsOperand a y s → ⊥
no_test_is_an_operand t a x y r s e f g = no_operand_is_a_test a t _ _ _ _ (sym e) g f

pub one_test : (t u : Test) (x y r s : List What) → x ≡ y → IsTest t x r → IsTest u y s → (t ≡ u) × (r ≡ s)
one_test (Less a c) (Less b d) x y r s e f g =
    let same = one_pair (one_operand a b) (one_operand c d) x y r s e f g in
    ((cc), same.3)
one_test (Same a c) (Same b d) x y r s e f g =
    let same = one_pair (one_operand a b) (one_operand c d) x y r s e f g in
    ((cc), same.3)
one_test (Both a c) (Both b d) x y r s e f g =
    let same = one_pair (one_test a b) (one_test c d) x y r s e f g in
    ((cc), same.3)
one_test (Either a c) (Either b d) x y r s e f g =
    let same = one_pair (one_test a b) (one_test c d) x y r s e f g in
    ((cc), same.3)
one_test (Not a) (Not b) x y r s e f g =
    let same = one_test a b _ _ _ _ (cc) f.goes_on.goes_on.phrase_is g.goes_on.goes_on.phrase_is in
    ((cc), (cc))
one_test (Less a c) (Same b d) x y r s e f g =
    let same = one_pair (one_operand a b) (one_operand c d) x y r s e f g in
    absurd (cc)
one_test (Same a c) (Less b d) x y r s e f g =
    let same = one_pair (one_operand a b) (one_operand c d) x y r s e f g in
    absurd (cc)
one_test (Both a c) (Either b d) x y r s e f g =
    let same = one_pair (one_test a b) (one_test c d) x y r s e f g in
    absurd (cc)
one_test (Either a c) (Both b d) x y r s e f g =
    let same = one_pair (one_test a b) (one_test c d) x y r s e f g in
    absurd (cc)
one_test (Less a c) (Both t u) x y r s e f g = absurd (apart_in_parentheses (no_operand_is_a_test a t) x y e f g)
one_test (Less a c) (Either t u) x y r s e f g = absurd (apart_in_parentheses (no_operand_is_a_test a t) x y e f g)
one_test (Same a c) (Both t u) x y r s e f g = absurd (apart_in_parentheses (no_operand_is_a_test a t) x y e f g)
one_test (Same a c) (Either t u) x y r s e f g = absurd (apart_in_parentheses (no_operand_is_a_test a t) x y e f g)
one_test (Both t u) (Less b d) x y r s e f g = absurd (apart_in_parentheses (no_test_is_an_operand t b) x y e f g)
one_test (Both t u) (Same b d) x y r s e f g = absurd (apart_in_parentheses (no_test_is_an_operand t b) x y e f g)
one_test (Either t u) (Less b d) x y r s e f g = absurd (apart_in_parentheses (no_test_is_an_operand t b) x y e f g)
one_test (Either t u) (Same b d) x y r s e f g = absurd (apart_in_parentheses (no_test_is_an_operand t b) x y e f g)
one_test (Less a c) (Not t) x y r s e f g = absurd (apart_by_bang (no_operand_begins_with_bang a) x y e f g)
one_test (Same a c) (Not t) x y r s e f g = absurd (apart_by_bang (no_operand_begins_with_bang a) x y e f g)
one_test (Both a c) (Not t) x y r s e f g = absurd (apart_by_bang (no_test_begins_with_bang a) x y e f g)
one_test (Either a c) (Not t) x y r s e f g = absurd (apart_by_bang (no_test_begins_with_bang a) x y e f g)
one_test (Not t) (Less b d) x y r s e f g = absurd (apart_by_bang (no_operand_begins_with_bang b) y x (sym e) g f)
one_test (Not t) (Same b d) x y r s e f g = absurd (apart_by_bang (no_operand_begins_with_bang b) y x (sym e) g f)
one_test (Not t) (Both b d) x y r s e f g = absurd (apart_by_bang (no_test_begins_with_bang b) y x (sym e) g f)
one_test (Not t) (Either b d) x y r s e f g = absurd (apart_by_bang (no_test_begins_with_bang b) y x (sym e) g f)
