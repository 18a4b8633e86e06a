-- Two statements that the same tokens begin with are one, and leave the same rest; so are two blocks that } follows.
use Rattle.std.proofs.Common.{◌≡◌, ℕ, List, [], ◌∷◌, refl, sym, ap, ◌∙◌, get_or}
use Rattle.std.specs.Prelude.{codes, false, ◌==◌}
use Rattle.c_tokens.specs.declared.symbol.Symbol.TheVariants as symbol
use Rattle.c_tokens.specs.Pieces.{What, Word, Sym}
use Rattle.c_grammar.specs.Grammar.{Then, Named, Key, Sign, verdict_number, IsOperand, IsReturn, IsLoopTest, IsStatement, IsBlock}
use Rattle.loop_ir.specs.declared.syntax.Verdict.{Verdict}
use Rattle.loop_ir.specs.declared.syntax.Verdict.TheVariants as verdict
use Rattle.loop_ir.specs.Statements.{Operand, Const, Var, Len, Int, Bin, Test, Statement, Set, Read, If, Loop, Emit, EndRow, Ret, Block, Nil, Cons}
use Rattle.c_grammar.proofs.FirstTokens.{first_mark_is, numbers_apart, marks_apart}
use Rattle.c_grammar.proofs.OneName.{one_number}
use Rattle.c_grammar.proofs.OneOperand.{operand_mark, operand_begins, one_operand}
use Rattle.c_grammar.proofs.OneTest.{one_test}
use Rattle.c_grammar.proofs.StatementMarks.{statement_mark, statement_begins, symbol_begins_no_statement}

-- ---- parts of statements

-- no operand begins as the name of an array
array_begins_no_operand : (w : Operand) → (operand_mark w == 97) ≡ false
array_begins_no_operand (Const n) = refl
array_begins_no_operand (Var k) = refl
array_begins_no_operand (Len k) = refl
array_begins_no_operand (Int k) = refl
array_begins_no_operand (Bin p a b) = refl

no_operand_is_an_array : {P : List What → Type 0} (w : Operand) {a : ℕ} (x y r : List What) → x ≡ y → IsOperand w x r → Named (codes "a") a P y → ⊥
no_operand_is_an_array w x y r e f g =
    marks_apart (operand_mark w) 97 e (operand_begins w _ _ f) (first_mark_is g.fixed.is) (array_begins_no_operand w)

-- a return tells its verdict
one_verdict : (v w : Verdict) → verdict_number v ≡ verdict_number w → v ≡ w
one_verdict verdict.Done verdict.Done e = refl
one_verdict verdict.Trap verdict.Trap e = refl
one_verdict verdict.Done verdict.Trap e = absurd (cc)
one_verdict verdict.Trap verdict.Done e = absurd (cc)

pub one_return : (v w : Verdict) (x y r s : List What) → x ≡ y → IsReturn v x r → IsReturn w y s → (v ≡ w) × (r ≡ s)
one_return v w x y r s e f g =
    let same : verdict_number v ≡ verdict_number w = (cc) in
    (one_verdict v w same, (cc))

one_loop_test : (t u : Test) (x y r s : List What) → x ≡ y → IsLoopTest t x r → IsLoopTest u y s → (t ≡ u) × (r ≡ s)
one_loop_test t u x y r s e f g =
    let same = one_test t u _ _ _ _ (cc) f.goes_on.phrase_is g.goes_on.phrase_is in
    (same.0, (cc))

-- the words for an item and for the end of a row differ in their second letter
abbrev second_letter : List What → ℕ
second_letter [] = 0
second_letter (Word text ∷ x) = get_or text 1 0
second_letter (t ∷ x) = 0

no_item_ends_a_row : {P Q : List What → Type 0} {x y : List What} → x ≡ y → Key (codes "EMIT") P x → Key (codes "ENDROW") Q y → ⊥
no_item_ends_a_row e f g =
    numbers_apart 77 78 (sym (ap second_letter f.is) ∙ ap second_letter e ∙ ap second_letter g.is) refl

-- a block in braces
one_in_braces : {P Q : List What → Type 0} (a b : Block) →
    ((x y r s rest more : List What) → x ≡ y → IsBlock a x r → IsBlock b y s → r ≡ Sym symbol.CloseBrace ∷ rest → s ≡ Sym symbol.CloseBrace ∷ more → (a ≡ b) × (r ≡ s)) →
    {x y : List What} → x ≡ y →
    (f : Sign symbol.OpenBrace (Then (IsBlock a) (Sign symbol.CloseBrace P)) x) (g : Sign symbol.OpenBrace (Then (IsBlock b) (Sign symbol.CloseBrace Q)) y) →
    (a ≡ b) × (f.goes_on.goes_on.rest ≡ g.goes_on.goes_on.rest)
one_in_braces a b one e f g =
    let same = one _ _ _ _ _ _ (cc) f.goes_on.phrase_is g.goes_on.phrase_is f.goes_on.goes_on.is g.goes_on.goes_on.is in
    (same.0, (cc))

-- ---- statements and blocks

mutual
  pub one_statement : (p q : Statement) (x y r s : List What) → x ≡ y → IsStatement p x r → IsStatement q y s → (p ≡ q) × (r ≡ s)
  one_statement (Set v w) (Set k u) x y r s e f g =
      let number : v ≡ k = one_number v k f.small g.small (cc) in
      let value = one_operand w u _ _ _ _ (cc) f.fixed.goes_on.goes_on.phrase_is g.fixed.goes_on.goes_on.phrase_is in
      ((cc), (cc))
  one_statement (Read v a w) (Read k b u) x y r s e f g =
      let number : v ≡ k = one_number v k f.small g.small (cc) in
      let array = f.fixed.goes_on.goes_on in
      let other = g.fixed.goes_on.goes_on in
      let array_number : a ≡ b = one_number a b array.small other.small (cc) in
      let value = one_operand w u _ _ _ _ (cc) array.fixed.goes_on.goes_on.phrase_is other.fixed.goes_on.goes_on.phrase_is in
      ((cc), (cc))
  one_statement (If t a b) (If u c d) x y r s e f g =
      let test = one_test t u _ _ _ _ (cc) f.goes_on.phrase_is g.goes_on.phrase_is in
      let then_block = one_in_braces a c (one_block a c) test.1 f.goes_on.goes_on g.goes_on.goes_on in
      let after = f.goes_on.goes_on.goes_on.goes_on.goes_on in
      let other = g.goes_on.goes_on.goes_on.goes_on.goes_on in
      let else_block = one_in_braces b d (one_block b d) (cc) after.goes_on other.goes_on in
      ((cc), (cc))
  one_statement (Loop t a) (Loop u b) x y r s e f g =
      let braced = f.goes_on.goes_on.goes_on.goes_on in
      let other = g.goes_on.goes_on.goes_on.goes_on in
      let test = one_loop_test t u _ _ _ _ (cc) braced.goes_on.phrase_is other.goes_on.phrase_is in
      let after = braced.goes_on.goes_on in
      let as_after = other.goes_on.goes_on in
      let body = one_block a b _ _ _ _ _ _ test.1 after.phrase_is as_after.phrase_is after.goes_on.is as_after.goes_on.is in
      ((cc), (cc))
  one_statement (Emit w) (Emit u) x y r s e f g =
      let value = one_operand w u _ _ _ _ (cc) f.goes_on.goes_on.phrase_is g.goes_on.goes_on.phrase_is in
      ((cc), (cc))
  one_statement EndRow EndRow x y r s e f g = (refl, (cc))
  one_statement (Ret v) (Ret w) x y r s e f g =
      let same = one_return v w x y r s e f g in
      ((cc), same.1)
  one_statement (Set v w) (Read k a u) x y r s e f g =
      absurd (no_operand_is_an_array w _ _ _ (cc) f.fixed.goes_on.goes_on.phrase_is g.fixed.goes_on.goes_on)
  one_statement (Read k a u) (Set v w) x y r s e f g =
      absurd (no_operand_is_an_array w _ _ _ (cc) g.fixed.goes_on.goes_on.phrase_is f.fixed.goes_on.goes_on)
  one_statement (Emit w) EndRow x y r s e f g = absurd (no_item_ends_a_row e f g)
  one_statement EndRow (Emit w) x y r s e f g = absurd (no_item_ends_a_row (sym e) g f)
  one_statement p q x y r s e f g =
      absurd (marks_apart (statement_mark p) (statement_mark q) e (statement_begins p _ _ f) (statement_begins q _ _ g) refl)

  pub one_block : (a b : Block) (x y r s rest more : List What) → x ≡ y → IsBlock a x r → IsBlock b y s → r ≡ Sym symbol.CloseBrace ∷ rest → s ≡ Sym symbol.CloseBrace ∷ more → (a ≡ b) × (r ≡ s)
  one_block Nil Nil x y r s rest more e f g c d = (refl, sym f ∙ e ∙ g)
  one_block Nil (Cons t ts) x y r s rest more e f g c d = absurd
      (marks_apart (statement_mark t) 4 (sym e) (statement_begins t _ _ g.phrase_is) (first_mark_is (f ∙ c)) (symbol_begins_no_statement t))
  one_block (Cons t ts) Nil x y r s rest more e f g c d = absurd
      (marks_apart (statement_mark t) 4 e (statement_begins t _ _ f.phrase_is) (first_mark_is (g ∙ d)) (symbol_begins_no_statement t))
  one_block (Cons t ts) (Cons u us) x y r s rest more e f g c d =
      let first = one_statement t u _ _ _ _ e f.phrase_is g.phrase_is in
      let others = one_block ts us _ _ _ _ _ _ first.1 f.goes_on g.goes_on c d in
      ((cc), others.1)
