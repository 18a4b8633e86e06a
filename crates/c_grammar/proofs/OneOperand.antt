-- Two operands that the same tokens begin with are one, and leave the same rest.
use Rattle.std.proofs.Common.{◌≡◌, ℕ, List, refl, ap, ◌∙◌, sym}
use Rattle.c_tokens.specs.declared.symbol.Symbol.{Symbol}
use Rattle.c_tokens.specs.declared.symbol.Symbol.TheVariants as symbol
use Rattle.c_tokens.specs.Pieces.{What}
use Rattle.c_grammar.specs.Grammar.{sign_of, IsOperand}
use Rattle.loop_ir.specs.declared.syntax.WOp.{WOp}
use Rattle.loop_ir.specs.declared.syntax.WOp.TheVariants as op
use Rattle.loop_ir.specs.Statements.{Operand, Const, Var, Len, Int, Bin}
use Rattle.c_grammar.proofs.FirstTokens.{first_mark, first_mark_is, marks_apart}
use Rattle.c_grammar.proofs.OneName.{one_number}

-- the operation that a sign is of, and some other for any other symbol
abbrev operation_of : Symbol → WOp
operation_of symbol.Plus = op.Add
operation_of symbol.Minus = op.Sub
operation_of symbol.Star = op.Mul
operation_of symbol.Slash = op.Div
operation_of symbol.Percent = op.Rem
operation_of s = op.Xor

its_operation : (p : WOp) → operation_of (sign_of p) ≡ p
its_operation op.Add = refl
its_operation op.Sub = refl
its_operation op.Mul = refl
its_operation op.Div = refl
its_operation op.Rem = refl
its_operation op.Xor = refl

one_operation : (p q : WOp) → sign_of p ≡ sign_of q → p ≡ q
one_operation p q e = sym (its_operation p) ∙ ap operation_of e ∙ its_operation q

-- the mark of the first token of an operand
abbrev pub operand_mark : Operand → ℕ
operand_mark (Const n) = 2
operand_mark (Var k) = 118
operand_mark (Len k) = 110
operand_mark (Int k) = 105
operand_mark (Bin p a b) = 3

pub operand_begins : (a : Operand) (x r : List What) → IsOperand a x r → first_mark x ≡ operand_mark a
operand_begins (Const n) x r f = first_mark_is f.is
operand_begins (Var k) x r f = first_mark_is f.fixed.is
operand_begins (Len k) x r f = first_mark_is f.fixed.is
operand_begins (Int k) x r f = first_mark_is f.fixed.is
operand_begins (Bin p a b) x r f = first_mark_is f.is

pub one_operand : (a b : Operand) (x y r s : List What) → x ≡ y → IsOperand a x r → IsOperand b y s → (a ≡ b) × (r ≡ s)
one_operand (Const n) (Const m) x y r s e f g = ((cc), (cc))
one_operand (Var k) (Var j) x y r s e f g =
    let same : k ≡ j = one_number k j f.small g.small (cc) in
    ((cc), (cc))
one_operand (Len k) (Len j) x y r s e f g =
    let same : k ≡ j = one_number k j f.small g.small (cc) in
    ((cc), (cc))
one_operand (Int k) (Int j) x y r s e f g =
    let same : k ≡ j = one_number k j f.small g.small (cc) in
    ((cc), (cc))
one_operand (Bin p a c) (Bin q b d) x y r s e f g =
    let left = one_operand a b _ _ _ _ (cc) f.goes_on.phrase_is g.goes_on.phrase_is in
    let same_sign : p ≡ q = one_operation p q (cc) in
    let right = one_operand c d _ _ _ _ (cc) f.goes_on.goes_on.goes_on.phrase_is g.goes_on.goes_on.goes_on.phrase_is in
    ((cc), (cc))
one_operand a b x y r s e f g =
    absurd (marks_apart (operand_mark a) (operand_mark b) e (operand_begins a _ _ f) (operand_begins b _ _ g) refl)
