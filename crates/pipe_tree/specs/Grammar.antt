-- The grammar. A phrase stands between two lists of tokens: what begins with it, and what is left.
use Rattle.std.specs.Prelude.{◌≡◌, ℕ, ◌≤◌, List, [], ◌∷◌, Bool, true, false}
use Rattle.pipe_lexer.specs.declared.keyword.Keyword.{Keyword}
use Rattle.pipe_lexer.specs.declared.keyword.Keyword.TheVariants as key
use Rattle.pipe_lexer.specs.declared.operator.InputKind.{InputKind}
use Rattle.pipe_lexer.specs.declared.operator.InputKind.TheVariants as input
use Rattle.pipe_lexer.specs.declared.symbol.Symbol.TheVariants as sym
use Rattle.pipe_tree.specs.Tokens.{What, Named, Number, Key, Sym, Tok, tok}
use Rattle.pipe_tree.specs.Operators.{sign_of, precedence, left_precedence, right_precedence}
use Rattle.pipe_tree.specs.Trees.{Formula, offset_of, Num, Truth, Name, Len, Neg, Not, Paren, Bin, And, Or, If, Label, Row, Pattern, Stream, From, Source, Array, Range, Unfold, Zip, Stage, Map, Filter, TakeWhile, Take, Drop, Scan, FlatMap, Stages, Nil, Cons, Terminal, Fold, Print, Declaration, Text}

-- this token at this offset, and then something holds of the rest
pub record At (what : What) (at : ℕ) (then_holds : List Tok → Type 0) (x : List Tok) : Type 0 where
  pub rest : List Tok
  pub is : x ≡ tok what at ∷ rest
  pub goes_on : then_holds rest

-- this token at any offset
pub record Fixed (what : What) (then_holds : List Tok → Type 0) (x : List Tok) : Type 0 where
  pub at : ℕ
  pub rest : List Tok
  pub is : x ≡ tok what at ∷ rest
  pub goes_on : then_holds rest

-- a phrase, and then something holds of the rest
pub record Then (phrase : List Tok → List Tok → Type 0) (then_holds : List Tok → Type 0) (x : List Tok) : Type 0 where
  pub rest : List Tok
  pub phrase_is : phrase x rest
  pub goes_on : then_holds rest

abbrev pub Ends : List Tok → List Tok → Type 0
Ends r x = x ≡ r

abbrev pub truth_key : Bool → Keyword
truth_key true = key.True
truth_key false = key.False

-- an expression of this precedence or a tighter one: 0 expr, 1 or, 2 and, 3 cmp, 4 sum, 5 prod, 6 unary, 7 atom
abbrev pub Phrase : Formula → ℕ → List Tok → List Tok → Type 0
Phrase (Num at w) l x r = At (Number w) at (Ends r) x
Phrase (Truth at b) l x r = At (Key (truth_key b)) at (Ends r) x
Phrase (Name at n) l x r = At (Named n) at (Ends r) x
Phrase (Len at q n) l x r = At (Key key.Len) at (Fixed (Sym sym.OpenParen) (At (Named n) q (Fixed (Sym sym.CloseParen) (Ends r)))) x
Phrase (Paren at a) l x r = At (Sym sym.OpenParen) at (Then (Phrase a 0) (Fixed (Sym sym.CloseParen) (Ends r))) x
Phrase (Neg at a) l x r = (l ≤ 6) × At (Sym sym.Minus) at (λ y. Phrase a 6 y r) x
Phrase (Not at a) l x r = (l ≤ 6) × At (Sym sym.Bang) at (λ y. Phrase a 6 y r) x
Phrase (Bin at op q a b) l x r =
    (at ≡ offset_of a) × (l ≤ precedence op) × Then (Phrase a (left_precedence op)) (At (Sym (sign_of op)) q (λ y. Phrase b (right_precedence op) y r)) x
Phrase (And at q a b) l x r = (at ≡ offset_of a) × (l ≤ 2) × Then (Phrase a 2) (At (Sym sym.AndAnd) q (λ y. Phrase b 3 y r)) x
Phrase (Or at q a b) l x r = (at ≡ offset_of a) × (l ≤ 1) × Then (Phrase a 1) (At (Sym sym.BarBar) q (λ y. Phrase b 2 y r)) x
Phrase (If at c a b) l x r =
    (l ≤ 0) × At (Key key.If) at (Then (Phrase c 0) (Fixed (Key key.Then) (Then (Phrase a 0) (Fixed (Key key.Else) (λ y. Phrase b 0 y r))))) x

-- part { "," part }
abbrev pub AreParts : {A : Type 0} → (A → List Tok → List Tok → Type 0) → List A → List Tok → List Tok → Type 0
AreParts IsPart [] x r = ⊥
AreParts IsPart (p ∷ []) x r = IsPart p x r
AreParts IsPart (p ∷ q ∷ ps) x r = Then (IsPart p) (Fixed (Sym sym.Comma) (λ y. AreParts IsPart (q ∷ ps) y r)) x

-- one part, at whose offset the whole is
abbrev pub IsSingle : {A : Type 0} → (A → ℕ) → (A → List Tok → List Tok → Type 0) → List A → ℕ → List Tok → List Tok → Type 0
IsSingle part_at IsPart [] at x r = ⊥
IsSingle part_at IsPart (p ∷ []) at x r = (at ≡ part_at p) × IsPart p x r
IsSingle part_at IsPart (p ∷ q ∷ ps) at x r = ⊥

-- part | "{" part { "," part } "}"
abbrev pub IsBraced : {A : Type 0} → (A → ℕ) → (A → List Tok → List Tok → Type 0) → Bool → List A → ℕ → List Tok → List Tok → Type 0
IsBraced part_at IsPart false parts at x r = IsSingle part_at IsPart parts at x r
IsBraced part_at IsPart true parts at x r = At (Sym sym.OpenBrace) at (Then (AreParts IsPart parts) (Fixed (Sym sym.CloseBrace) (Ends r))) x

-- expr
abbrev pub IsExpression : Formula → List Tok → List Tok → Type 0
IsExpression e x r = Phrase e 0 x r

-- expr | "{" expr { "," expr } "}"
abbrev pub IsRow : Row → List Tok → List Tok → Type 0
IsRow row x r = IsBraced offset_of IsExpression row.braces row.parts row.at x r

-- NAME
abbrev pub IsLabel : Label → List Tok → List Tok → Type 0
IsLabel n x r = At (Named n.text) n.at (Ends r) x

-- NAME | "{" NAME { "," NAME } "}"
abbrev pub IsPattern : Pattern → List Tok → List Tok → Type 0
IsPattern p x r = IsBraced (λ (n : Label). n.at) IsLabel p.braces p.names p.at x r

-- row "with" pat pat "->" row
abbrev pub IsFolding : Row → Pattern → Pattern → Row → List Tok → List Tok → Type 0
IsFolding seed state pat next x r =
    Then (IsRow seed) (Fixed (Key key.With) (Then (IsPattern state) (Then (IsPattern pat) (Fixed (Sym sym.Arrow) (λ y. IsRow next y r))))) x

abbrev mutual
  -- source { "|" stage }
  pub IsStream : Stream → List Tok → List Tok → Type 0
  IsStream (From at source stages) x r = Then (IsSource source at) (λ y. AreStages stages y r) x

  pub IsSource : Source → ℕ → List Tok → List Tok → Type 0
  IsSource (Array n) at x r = At (Key key.Array) at (λ y. IsLabel n y r) x
  IsSource (Range a b) at x r =
      At (Key key.Range) at (Fixed (Sym sym.OpenParen) (Then (Phrase a 0) (Fixed (Sym sym.Comma) (Then (Phrase b 0) (Fixed (Sym sym.CloseParen) (Ends r)))))) x
  IsSource (Unfold seed pat guard item next) at x r =
      At (Key key.Unfold) at (Then (IsRow seed) (Fixed (Key key.With) (Then (IsPattern pat) (Fixed (Key key.While) (Then (Phrase guard 0)
      (Fixed (Key key.Yield) (Then (IsRow item) (Fixed (Key key.Next) (λ y. IsRow next y r))))))))) x
  IsSource (Zip a b) at x r =
      At (Key key.Zip) at (Fixed (Sym sym.OpenParen) (Then (IsStream a) (Fixed (Sym sym.Comma) (Then (IsStream b) (Fixed (Sym sym.CloseParen) (Ends r)))))) x

  pub AreStages : Stages → List Tok → List Tok → Type 0
  AreStages Nil x r = x ≡ r
  AreStages (Cons s ss) x r = Fixed (Sym sym.Bar) (Then (IsStage s) (λ y. AreStages ss y r)) x

  pub IsStage : Stage → List Tok → List Tok → Type 0
  IsStage (Map at p body) x r = At (Key key.Map) at (Then (IsPattern p) (Fixed (Sym sym.Arrow) (λ y. IsRow body y r))) x
  IsStage (Filter at p e) x r = At (Key key.Filter) at (Then (IsPattern p) (Fixed (Sym sym.Arrow) (λ y. Phrase e 0 y r))) x
  IsStage (TakeWhile at p e) x r = At (Key key.TakeWhile) at (Then (IsPattern p) (Fixed (Sym sym.Arrow) (λ y. Phrase e 0 y r))) x
  IsStage (Take at e) x r = At (Key key.Take) at (λ y. Phrase e 0 y r) x
  IsStage (Drop at e) x r = At (Key key.Drop) at (λ y. Phrase e 0 y r) x
  IsStage (Scan at seed state pat next) x r = At (Key key.Scan) at (λ y. IsFolding seed state pat next y r) x
  IsStage (FlatMap at p s) x r =
      At (Key key.FlatMap) at (Then (IsPattern p) (Fixed (Sym sym.Arrow) (Fixed (Sym sym.OpenParen) (Then (IsStream s) (Fixed (Sym sym.CloseParen) (Ends r)))))) x

abbrev pub IsTerminal : Terminal → ℕ → List Tok → List Tok → Type 0
IsTerminal (Fold seed state pat next) at x r = At (Key key.Fold) at (λ y. IsFolding seed state pat next y r) x
IsTerminal Print at x r = At (Key key.Print) at (Ends r) x

abbrev pub kind_key : InputKind → Keyword
kind_key input.Array = key.Array
kind_key input.Int = key.Int

-- { "input" NAME ":" ( "array" | "int" ) ";" }
abbrev pub AreDeclared : List Declaration → List Tok → List Tok → Type 0
AreDeclared [] x r = x ≡ r
AreDeclared (d ∷ ds) x r =
    At (Key key.Input) d.at (Then (IsLabel d.name) (Fixed (Sym sym.Colon) (Fixed (Key (kind_key d.kind)) (Fixed (Sym sym.Semicolon) (λ y. AreDeclared ds y r))))) x

-- { decl } stream "|" terminal: the tokens are those of the tree, all of them
abbrev pub IsSentence : List Tok → Text → Type 0
IsSentence toks tree =
    Then (AreDeclared tree.inputs) (Then (IsStream tree.stream) (Fixed (Sym sym.Bar) (λ y. IsTerminal tree.terminal tree.terminal_at y []))) toks
