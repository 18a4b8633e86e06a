-- Which tokens complete a state to the tokens of a program.
use Rattle.std.specs.Prelude.{◌≡◌, ℕ, ◌+◌, List, [], ◌∷◌, ◌++◌, length, codes, Option, Some, None, true, ◌⊎◌}
use Rattle.list_denotation.specs.declared.input.InputKind.{InputKind}
use Rattle.loop_ir.specs.declared.syntax.Verdict.{Verdict}
use Rattle.loop_ir.specs.declared.syntax.Verdict.TheVariants as verdict
use Rattle.loop_ir.specs.Statements.{Statement, If, Loop, Ret, Block, Nil, Cons, join, Routine}
use Rattle.loop_ir.specs.StatementCopies.{block_from}
use Rattle.c_tokens.specs.Pieces as piece
use Rattle.c_tokens.specs.Pieces.{What}
use Rattle.c_tokens.specs.declared.symbol.Symbol.{Symbol}
use Rattle.c_tokens.specs.declared.symbol.Symbol.TheVariants as sym
use Rattle.c_grammar.specs.Grammar.{Fixed, Then, Ends, Key, Sign, Named, sign_of, IsOperand, IsTest, verdict_number, IsBlock, IsParam, AreMoreParams, AreDeclarations}
use Rattle.c_words.specs.Words.{StandsFor}
use Rattle.c_words.specs.declared.token.CToken.{CToken}
use Rattle.c_automaton.specs.declared.forms.Want.{Want}
use Rattle.c_automaton.specs.declared.forms.Want.TheVariants as want
use Rattle.c_automaton.specs.declared.forms.Operator.{Operator}
use Rattle.c_automaton.specs.declared.forms.Operator.TheVariants as operator
use Rattle.c_automaton.specs.declared.forms.Form.{Form}
use Rattle.c_automaton.specs.declared.forms.Form.TheVariants as form
use Rattle.c_automaton.specs.declared.forms.Next.{Next}
use Rattle.c_automaton.specs.declared.forms.Next.TheVariants as next
use Rattle.c_automaton.specs.Phrases.{Phrase, AnOperand, ATest, Frame, Open, Left, Negation, may_be_test, allows, inside, side_of, may_join, joined, negated}
use Rattle.c_automaton.specs.Automaton.{Opening, Then as ThenBlock, Else, Body, Level, Point, Awaits, Within, State, with_param, want_of, finished}

-- ---- tokens

-- a token in which a reader sees this, and then something holds of the rest
pub record Seen (t : CToken) (then_holds : List What → Type 0) (x : List What) : Type 0 where
  pub what : What
  pub rest : List What
  pub is : x ≡ what ∷ rest
  pub stands : StandsFor t what
  pub goes_on : then_holds rest

abbrev pub AllSeen : List CToken → (List What → Type 0) → List What → Type 0
AllSeen [] then_holds x = then_holds x
AllSeen (t ∷ toks) then_holds x = Seen t (AllSeen toks then_holds) x

-- ---- phrases

abbrev pub IsPhrase : Phrase → List What → List What → Type 0
IsPhrase (AnOperand a) x r = IsOperand a x r
IsPhrase (ATest t) x r = IsTest t x r

abbrev pub symbol_of : Operator → Symbol
symbol_of (operator.Arithmetic o) = sign_of o
symbol_of operator.Less = sym.Less
symbol_of operator.Same = sym.EqualEqual
symbol_of operator.Both = sym.AndAnd
symbol_of operator.Either = sym.BarBar

-- a phrase that may stand here, and then something holds of it and of the rest
pub record PhraseThen (w : Want) (then_holds : Phrase → List What → Type 0) (x : List What) : Type 0 where
  pub phrase : Phrase
  pub allowed : allows w phrase ≡ true
  pub is : Then (IsPhrase phrase) (then_holds phrase) x

-- an operator behind this phrase in parentheses, and then something holds of it and of the rest
pub record OperatorThen (w : Want) (p : Phrase) (then_holds : Operator → List What → Type 0) (x : List What) : Type 0 where
  pub operator : Operator
  pub joins : may_join w operator ≡ true
  pub side : allows (side_of operator) p ≡ true
  pub is : Sign (symbol_of operator) (then_holds operator) x

-- a ), and then something holds of the phrase that it closes and of the rest
abbrev pub Closes : Option Phrase → (Phrase → List What → Type 0) → List What → Type 0
Closes None then_holds x = ⊥
Closes (Some p) then_holds x = Sign sym.CloseParen (then_holds p) x

-- behind the outermost phrase something holds
module _ (then_holds : Phrase → List What → Type 0) where
  -- what goes on behind a phrase inside these frames
  abbrev pub Follows : List Frame → Phrase → List What → Type 0
  Follows [] p x = then_holds p x
  Follows (Open w ∷ fs) p x = OperatorThen w p (λ o. PhraseThen (side_of o) (λ b. Closes (joined o p b) (Follows fs))) x
  Follows (Left o a ∷ fs) p x = Closes (joined o a p) (Follows fs) x
  Follows (Negation ∷ fs) p x = Closes (negated p) (Follows fs) x

  -- behind a ( there may be a !
  abbrev pub NegationThen : Want → List Frame → List What → Type 0
  NegationThen w fs x = (may_be_test w ≡ true) × Sign sym.Bang (PhraseThen want.Test (Follows (Negation ∷ fs))) x

  -- what goes on where a phrase is to begin inside these frames
  abbrev pub Begins : Want → List Frame → List What → Type 0
  Begins outer [] x = PhraseThen outer then_holds x
  Begins outer (Open w ∷ fs) x = PhraseThen (inside w) (Follows (Open w ∷ fs)) x ⊎ NegationThen w fs x
  Begins outer (Left o p ∷ fs) x = PhraseThen (side_of o) (Follows (Left o p ∷ fs)) x
  Begins outer (Negation ∷ fs) x = PhraseThen want.Test (Follows (Negation ∷ fs)) x

  abbrev pub ReadsOn : Want → List Frame → Option Phrase → List What → Type 0
  ReadsOn outer fs None x = Begins outer fs x
  ReadsOn outer fs (Some p) x = Follows fs p x

-- ---- blocks

-- statements, and then something holds of them and of the rest
pub record BlockThen (then_holds : Block → List What → Type 0) (x : List What) : Type 0 where
  pub block : Block
  pub is : Then (IsBlock block) (then_holds block) x

-- the } of this block with what follows it, up to the end of the statement that it belongs to
abbrev pub BlockCloses : Opening → Block → (Statement → List What → Type 0) → List What → Type 0
BlockCloses (ThenBlock t) a then_holds x =
    Sign sym.CloseBrace (Key (codes "else") (Sign sym.OpenBrace (BlockThen (λ b. Sign sym.CloseBrace (then_holds (If t a b)))))) x
BlockCloses (Else t a) b then_holds x = Sign sym.CloseBrace (then_holds (If t a b)) x
BlockCloses (Body t) b then_holds x = Sign sym.CloseBrace (then_holds (Loop t b)) x

abbrev pub one_statement : Statement → Block
one_statement st = Cons st Nil

-- the tokens that complete a state to those of this program
module _ (q : Routine) where
  -- the parts are those of the program
  abbrev IsMadeOf : List InputKind → ℕ → Block → Type 0
  IsMadeOf params vars body = q ≡ record { params = params; vars = vars; body = body }

  -- the } that ends the text, before which stands return 0
  pub record TextCloses (params : List InputKind) (vars : ℕ) (here : Block) (x : List What) : Type 0 where
    pub body : Block
    pub returns : here ≡ join body (one_statement (Ret verdict.Done))
    pub made : IsMadeOf params vars body
    pub is : Sign sym.CloseBrace (Ends []) x

  -- what goes on in a block with these statements so far, inside these levels
  abbrev pub InBlock : List InputKind → ℕ → List Level → Block → List What → Type 0
  InBlock params vars [] here x = BlockThen (λ b. TextCloses params vars (join here b)) x
  InBlock params vars (l ∷ levels) here x =
      BlockThen (λ b. BlockCloses l.opening (join here b) (λ st. InBlock params vars levels (join (block_from l.before) (one_statement st)))) x

  abbrev pub AtStatements : State → List What → Type 0
  AtStatements s x = InBlock s.params s.vars s.around (block_from s.here) x

  -- so many declarations more, and then statements
  pub record AtDeclarations (s : State) (x : List What) : Type 0 where
    pub more : ℕ
    pub is : Then (AreDeclarations s.vars more) (AtStatements (record s { vars = s.vars + more })) x

  -- the { behind the parameters
  abbrev pub BodyOpens : State → List What → Type 0
  BodyOpens s x = Sign sym.CloseParen (Sign sym.OpenBrace (AtDeclarations s)) x

  pub record AtParamEnd (s : State) (x : List What) : Type 0 where
    pub more : List InputKind
    pub is : Then (AreMoreParams (length s.params) more) (BodyOpens (record s { params = s.params ++ more })) x

  pub record AtFurtherParam (s : State) (x : List What) : Type 0 where
    pub kind : InputKind
    pub is : Then (IsParam (length s.params) kind) (AtParamEnd (with_param kind s)) x

  abbrev pub AtFirstParam : State → List What → Type 0
  AtFirstParam s x = Key (codes "void") (BodyOpens s) x ⊎ AtFurtherParam s x

  -- the statements that come behind the phrase of a statement
  abbrev pub AtPointAfter : Point → State → List What → Type 0
  AtPointAfter (Awaits toks n) s x = AllSeen toks (AtStatements s) x
  AtPointAfter (Within f r) s x = ⊥

  abbrev pub AfterPhrase : Option State → List What → Type 0
  AfterPhrase None x = ⊥
  AfterPhrase (Some s) x = AtPointAfter s.point s x

  -- what goes on behind the phrase of a statement
  abbrev pub PhraseFollows : Form → State → Phrase → List What → Type 0
  PhraseFollows f s p x = AfterPhrase (finished f p s) x

  abbrev pub AtPhrase : Form → State → List What → Type 0
  AtPhrase f s x = PhraseThen (want_of f) (PhraseFollows f s) x

  -- behind v = stands an item of an array, or an operand
  pub record ItemThen (v : ℕ) (s : State) (x : List What) : Type 0 where
    pub array : ℕ
    pub is : Named (codes "a") array (Sign sym.OpenBracket (AtPhrase (form.Read v array) s)) x

  abbrev pub AtAssigned : ℕ → State → List What → Type 0
  AtAssigned v s x = AtPhrase (form.Set v) s x ⊎ ItemThen v s x

  pub record AtVerdict (s : State) (x : List What) : Type 0 where
    pub verdict : Verdict
    pub is : Fixed (piece.Bare (verdict_number verdict)) (Sign sym.Semicolon (AtStatements (record s { here = s.here ++ Ret verdict ∷ [] }))) x

  abbrev pub AtNext : Next → State → List What → Type 0
  AtNext next.FirstParam s x = AtFirstParam s x
  AtNext next.ParamEnd s x = AtParamEnd s x
  AtNext next.FurtherParam s x = AtFurtherParam s x
  AtNext next.Declarations s x = AtDeclarations s x
  AtNext next.Statements s x = AtStatements s x
  AtNext (next.Assigned v) s x = AtAssigned v s x
  AtNext next.Verdict s x = AtVerdict s x
  AtNext (next.Phrase f) s x = AtPhrase f s x
  AtNext next.End s x = (x ≡ []) × IsMadeOf s.params s.vars (block_from s.here)

  abbrev pub AtPoint : Point → State → List What → Type 0
  AtPoint (Awaits toks n) s x = AllSeen toks (AtNext n s) x
  AtPoint (Within f r) s x = ReadsOn (PhraseFollows f s) (want_of f) r.frames r.got x

  -- the tokens complete the state
  abbrev pub Completes : State → List What → Type 0
  Completes s x = AtPoint s.point s x
