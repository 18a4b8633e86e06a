-- The grammar of the C subset. A phrase stands between two lists of tokens: what begins with it, and what is left.
use Rattle.std.specs.Prelude.{◌≡◌, ℕ, zero, suc, ◌+◌, ◌^◌, ◌<◌, List, [], ◌∷◌, ◌++◌, codes, decimal}
use Rattle.list_denotation.specs.declared.input.InputKind.{InputKind}
use Rattle.list_denotation.specs.declared.input.InputKind.TheVariants as kind
use Rattle.loop_ir.specs.declared.syntax.WOp.{WOp}
use Rattle.loop_ir.specs.declared.syntax.WOp.TheVariants as op
use Rattle.loop_ir.specs.declared.syntax.Verdict.{Verdict}
use Rattle.loop_ir.specs.declared.syntax.Verdict.TheVariants as verdict
use Rattle.loop_ir.specs.Statements.{Operand, Const, Var, Len, Int, Bin, Test, Less, Same, Both, Either, Not, Statement, Set, Read, If, Loop, Emit, EndRow, Ret, Block, Nil, Cons, Routine}
use Rattle.c_tokens.specs.declared.symbol.Symbol.{Symbol}
use Rattle.c_tokens.specs.declared.symbol.Symbol.TheVariants as sym
use Rattle.c_tokens.specs.Pieces as piece
use Rattle.c_tokens.specs.Pieces.{What, Word, Bare, Sym}

-- this token, and then something holds of the rest
pub record Fixed (what : What) (then_holds : List What → Type 0) (x : List What) : Type 0 where
  pub rest : List What
  pub is : x ≡ what ∷ rest
  pub goes_on : then_holds rest

-- a phrase, and then something holds of the rest
pub record Then (phrase : List What → List What → Type 0) (then_holds : List What → Type 0) (x : List What) : Type 0 where
  pub rest : List What
  pub phrase_is : phrase x rest
  pub goes_on : then_holds rest

abbrev pub Ends : List What → List What → Type 0
Ends r x = x ≡ r

-- this word, and this symbol
abbrev pub Key : List ℕ → (List What → Type 0) → List What → Type 0
Key text = Fixed (Word text)

abbrev pub Sign : Symbol → (List What → Type 0) → List What → Type 0
Sign s = Fixed (Sym s)

-- a name: a letter, and a number of 32 bits without a leading zero
pub record Named (letter : List ℕ) (k : ℕ) (then_holds : List What → Type 0) (x : List What) : Type 0 where
  pub small : k < 2 ^ 32
  pub fixed : Fixed (Word (letter ++ decimal k)) then_holds x

-- ---- words and tests

abbrev pub sign_of : WOp → Symbol
sign_of op.Add = sym.Plus
sign_of op.Sub = sym.Minus
sign_of op.Mul = sym.Star
sign_of op.Div = sym.Slash
sign_of op.Rem = sym.Percent
sign_of op.Xor = sym.Caret

abbrev pub IsOperand : Operand → List What → List What → Type 0
IsOperand (Const n) x r = Fixed (piece.Const n) (Ends r) x
IsOperand (Var k) x r = Named (codes "v") k (Ends r) x
IsOperand (Len k) x r = Named (codes "n") k (Ends r) x
IsOperand (Int k) x r = Named (codes "i") k (Ends r) x
IsOperand (Bin op a b) x r = Sign sym.OpenParen (Then (IsOperand a) (Sign (sign_of op) (Then (IsOperand b) (Sign sym.CloseParen (Ends r))))) x

abbrev pub IsTest : Test → List What → List What → Type 0
IsTest (Less a b) x r = Sign sym.OpenParen (Then (IsOperand a) (Sign sym.Less (Then (IsOperand b) (Sign sym.CloseParen (Ends r))))) x
IsTest (Same a b) x r = Sign sym.OpenParen (Then (IsOperand a) (Sign sym.EqualEqual (Then (IsOperand b) (Sign sym.CloseParen (Ends r))))) x
IsTest (Both a b) x r = Sign sym.OpenParen (Then (IsTest a) (Sign sym.AndAnd (Then (IsTest b) (Sign sym.CloseParen (Ends r))))) x
IsTest (Either a b) x r = Sign sym.OpenParen (Then (IsTest a) (Sign sym.BarBar (Then (IsTest b) (Sign sym.CloseParen (Ends r))))) x
IsTest (Not a) x r = Sign sym.OpenParen (Sign sym.Bang (Then (IsTest a) (Sign sym.CloseParen (Ends r)))) x

-- ---- statements

abbrev pub verdict_number : Verdict → ℕ
verdict_number verdict.Done = 0
verdict_number verdict.Trap = 1

abbrev pub IsReturn : Verdict → List What → List What → Type 0
IsReturn v x r = Key (codes "return") (Fixed (Bare (verdict_number v)) (Sign sym.Semicolon (Ends r))) x

-- the test of a loop, which is left where it fails
abbrev pub IsLoopTest : Test → List What → List What → Type 0
IsLoopTest t x r =
    Key (codes "if") (Then (IsTest t) (Sign sym.OpenBrace (Sign sym.CloseBrace (Key (codes "else") (Sign sym.OpenBrace (Key (codes "break")
    (Sign sym.Semicolon (Sign sym.CloseBrace (Ends r))))))))) x

abbrev mutual
  pub IsStatement : Statement → List What → List What → Type 0
  IsStatement (Set v w) x r = Named (codes "v") v (Sign sym.Equal (Then (IsOperand w) (Sign sym.Semicolon (Ends r)))) x
  IsStatement (Read v a w) x r =
      Named (codes "v") v (Sign sym.Equal (Named (codes "a") a (Sign sym.OpenBracket (Then (IsOperand w) (Sign sym.CloseBracket (Sign sym.Semicolon (Ends r))))))) x
  IsStatement (If t a b) x r =
      Key (codes "if") (Then (IsTest t) (Sign sym.OpenBrace (Then (IsBlock a) (Sign sym.CloseBrace (Key (codes "else") (Sign sym.OpenBrace
      (Then (IsBlock b) (Sign sym.CloseBrace (Ends r))))))))) x
  IsStatement (Loop t body) x r =
      Key (codes "while") (Sign sym.OpenParen (Fixed (Bare 1) (Sign sym.CloseParen (Sign sym.OpenBrace (Then (IsLoopTest t)
      (Then (IsBlock body) (Sign sym.CloseBrace (Ends r)))))))) x
  IsStatement (Emit w) x r =
      Key (codes "EMIT") (Sign sym.OpenParen (Then (IsOperand w) (Sign sym.CloseParen (Sign sym.Semicolon (Ends r))))) x
  IsStatement EndRow x r = Key (codes "ENDROW") (Sign sym.OpenParen (Sign sym.CloseParen (Sign sym.Semicolon (Ends r)))) x
  IsStatement (Ret v) x r = IsReturn v x r

  pub IsBlock : Block → List What → List What → Type 0
  IsBlock Nil x r = x ≡ r
  IsBlock (Cons s ss) x r = Then (IsStatement s) (λ y. IsBlock ss y r) x

-- ---- parameters and declarations, from number k on

abbrev pub IsParam : ℕ → InputKind → List What → List What → Type 0
IsParam k kind.Array x r =
    Key (codes "const") (Key (codes "uint64_t") (Sign sym.Star (Named (codes "a") k (Sign sym.Comma (Key (codes "uint64_t") (Named (codes "n") k (Ends r))))))) x
IsParam k kind.Int x r = Key (codes "uint64_t") (Named (codes "i") k (Ends r)) x

abbrev pub AreMoreParams : ℕ → List InputKind → List What → List What → Type 0
AreMoreParams k [] x r = x ≡ r
AreMoreParams k (p ∷ ps) x r = Sign sym.Comma (Then (IsParam k p) (λ y. AreMoreParams (k + 1) ps y r)) x

abbrev pub AreParams : List InputKind → List What → List What → Type 0
AreParams [] x r = Key (codes "void") (Ends r) x
AreParams (p ∷ ps) x r = Then (IsParam 0 p) (λ y. AreMoreParams 1 ps y r) x

-- so many declarations
abbrev pub AreDeclarations : ℕ → ℕ → List What → List What → Type 0
AreDeclarations k zero x r = x ≡ r
AreDeclarations k (suc n) x r =
    Key (codes "uint64_t") (Named (codes "v") k (Sign sym.Equal (Fixed (piece.Const 0) (Sign sym.Semicolon (λ y. AreDeclarations (k + 1) n y r))))) x

-- ---- a text

-- the last return of a text, and the brace that closes it
abbrev pub IsClosed : List What → Type 0
IsClosed = Then (IsReturn verdict.Done) (Sign sym.CloseBrace (Ends []))

-- the tokens are those of this program
abbrev pub IsProgram : Routine → List What → Type 0
IsProgram q =
    Key (codes "int") (Key (codes "pipeline") (Sign sym.OpenParen (Then (AreParams q.params) (Sign sym.CloseParen (Sign sym.OpenBrace
    (Then (AreDeclarations 0 q.vars) (Then (IsBlock q.body) IsClosed)))))))
