-- What completes a continuation: the tokens that are still to come, with the tree that they make; within
-- the depths, or without limits.
use Rattle.std.proofs.Common.{◌≡◌, ℕ, zero, suc, ◌+◌, max, List, [], ◌∷◌, ◌++◌, ◌⊎◌}
use Rattle.pipe_lexer.specs.declared.operator.InputKind.{InputKind}
use Rattle.pipe_lexer.specs.declared.keyword.Keyword.TheVariants as key
use Rattle.pipe_lexer.specs.declared.symbol.Symbol.TheVariants as symbol
use Rattle.pipe_reader.specs.declared.separator.Separator.{Separator}
use Rattle.pipe_reader.specs.declared.separator.Separator.TheVariants as separator
use Rattle.pipe_tree.specs.Bounds.{depth_of, row_depth, stream_depth, stages_depth, terminal_depth, stream_nesting, stages_nesting}
use Rattle.pipe_tree.specs.Bounds as bounds
use Rattle.pipe_reader.specs.Continuations.{Continuation, End, ASeparator, ALabel, AKind, AnExpression, ARow, MoreParts, APattern, MoreNames, Nested, AStream, MoreStages, AStage, ATerminal, MoreDeclarations, braced_row, braced_pattern}
use Rattle.pipe_tree.specs.Grammar.{Fixed, Then, Ends, IsExpression, IsLabel, IsRow, IsPattern, IsStream, IsStage, AreStages, IsTerminal, AreDeclared, kind_key}
use Rattle.pipe_tree.specs.Tokens.{What, Key, Sym, Tok}
use Rattle.pipe_tree.specs.TreeCopies.{stages_of_list}
use Rattle.pipe_tree.specs.Trees.{Formula, Row, Stream, From, Source, Stage, Terminal, Declaration, Text}
use Rattle.exact_reader.proofs.Limited.{Limits, AtMost}
use Rattle.pipe_reader.proofs.StateMeaning.{Completes}

abbrev pub separator_token : Separator → What
separator_token separator.With = Key key.With
separator_token separator.While = Key key.While
separator_token separator.Yield = Key key.Yield
separator_token separator.Next = Key key.Next
separator_token separator.Arrow = Sym symbol.Arrow
separator_token separator.OpenParen = Sym symbol.OpenParen
separator_token separator.CloseParen = Sym symbol.CloseParen
separator_token separator.CloseBrace = Sym symbol.CloseBrace
separator_token separator.Comma = Sym symbol.Comma
separator_token separator.Colon = Sym symbol.Colon
separator_token separator.Semicolon = Sym symbol.Semicolon

-- a phrase that is within the limits, and then something holds of it and of the rest
pub record Part {A : Type 0} (is : A → List Tok → List Tok → Type 0) (fits : A → Type 0) (then_holds : A → List Tok → Type 0) (x : List Tok) : Type 0 where
  pub value : A
  pub rest : List Tok
  pub phrase : is value x rest
  pub fit : fits value
  pub after : then_holds value rest

abbrev pub Any : {A : Type 0} → A → Type 0
Any a = Unit {0}

abbrev pub IsKind : InputKind → List Tok → List Tok → Type 0
IsKind kind x r = Fixed (Key (kind_key kind)) (Ends r) x

-- { "," part } "}"
abbrev pub AreOthers : {A : Type 0} → (A → List Tok → List Tok → Type 0) → List A → List Tok → List Tok → Type 0
AreOthers IsPart [] x r = Fixed (Sym symbol.CloseBrace) (Ends r) x
AreOthers IsPart (p ∷ ps) x r = Fixed (Sym symbol.Comma) (Then (IsPart p) (λ y. AreOthers IsPart ps y r)) x

-- stages behind others, each behind a bar
abbrev pub AreListedStages : List Stage → List Tok → List Tok → Type 0
AreListedStages ss x r = AreStages (stages_of_list ss) x r

-- a terminal with its offset
abbrev pub IsTerminalAt : ℕ × Terminal → List Tok → List Tok → Type 0
IsTerminalAt t x r = IsTerminal t.1 t.0 x r

-- ---- the limits of phrases

abbrev pub RowWithinDepth : Limits → Row → Type 0
RowWithinDepth l r = AtMost l 200 (row_depth r.parts)

abbrev pub PartsWithinDepth : Limits → List Formula → Type 0
PartsWithinDepth l es = AtMost l 200 (row_depth es)

-- a measure of the expressions of a source or a stage, and of the nesting in it
abbrev pub source_depth : Source → ℕ
source_depth = bounds.of_source 0 depth_of row_depth max

abbrev pub stage_depth : Stage → ℕ
stage_depth = bounds.of_stage 0 depth_of row_depth max

abbrev pub StreamWithinDepth : Limits → ℕ → Stream → Type 0
StreamWithinDepth l around s = AtMost l 200 (stream_depth s) × AtMost l 16 (around + stream_nesting s)

abbrev pub SourceWithinDepth : Limits → ℕ → Source → Type 0
SourceWithinDepth l around s = AtMost l 200 (source_depth s) × AtMost l 16 (around + bounds.source_nesting s)

abbrev pub StageWithinDepth : Limits → ℕ → Stage → Type 0
StageWithinDepth l around s = AtMost l 200 (stage_depth s) × AtMost l 16 (around + bounds.stage_nesting s)

abbrev pub StagesWithinDepth : Limits → ℕ → List Stage → Type 0
StagesWithinDepth l around ss = AtMost l 200 (stages_depth (stages_of_list ss)) × AtMost l 16 (around + stages_nesting (stages_of_list ss))

abbrev pub TerminalWithinDepth : Limits → ℕ × Terminal → Type 0
TerminalWithinDepth l t = AtMost l 200 (terminal_depth t.1)

-- ---- what completes

-- a bar follows the outermost stream
abbrev pub Closing : ℕ → (List Tok → Type 0) → List Tok → Type 0
Closing zero then_holds x = Fixed (Sym symbol.Bar) then_holds x
Closing (suc around) then_holds x = then_holds x

abbrev pub IsOutermost : ℕ → Type 0
IsOutermost zero = Unit {0}
IsOutermost (suc around) = ⊥

-- a stream, and then
abbrev pub Streamed : Limits → ℕ → (Stream → List Tok → Type 0) → List Tok → Type 0
Streamed l around then_holds x = Part IsStream (StreamWithinDepth l around) (λ s. Closing around (then_holds s)) x

-- stages behind those of a stream, and then
abbrev pub Staged : Limits → (around at : ℕ) → Source → List Stage → (Stream → List Tok → Type 0) → List Tok → Type 0
Staged l around at source ss then_holds x =
    Part AreListedStages (StagesWithinDepth l around) (λ more. Closing around (then_holds (From at source (stages_of_list (ss ++ more))))) x

-- a terminal, and then
abbrev pub Terminated : Limits → (ℕ → Terminal → List Tok → Type 0) → List Tok → Type 0
Terminated l then_holds x = Part IsTerminalAt (TerminalWithinDepth l) (λ t. then_holds t.0 t.1) x

-- the stream and the terminal, and no token more
abbrev pub IsTextEnd : Text → List Declaration → Stream → ℕ → Terminal → List Tok → Type 0
IsTextEnd tree ds s at t x = (tree ≡ record { inputs = ds; stream = s; terminal_at = at; terminal = t }) × (x ≡ [])

abbrev pub Ended : Limits → List Declaration → Text → List Tok → Type 0
Ended l ds tree x = Streamed l 0 (λ s. Terminated l (IsTextEnd tree ds s)) x

abbrev pub Completed : Limits → Continuation → Text → List Tok → Type 0
Completed l (End t) tree x = (tree ≡ t) × (x ≡ [])
Completed l (ASeparator w c) tree x = Fixed (separator_token w) (Completed l c tree) x
Completed l (ALabel f) tree x = Part IsLabel Any (λ n. Completed l (f n) tree) x
Completed l (AKind f) tree x = Part IsKind Any (λ kind. Completed l (f kind) tree) x
Completed l (AnExpression s f) tree x = Completes s (λ e y. AtMost l 200 (depth_of e) × Completed l (f e) tree y) x
Completed l (ARow f) tree x = Part IsRow (RowWithinDepth l) (λ r. Completed l (f r) tree) x
Completed l (MoreParts at es f) tree x = Part (AreOthers IsExpression) (PartsWithinDepth l) (λ more. Completed l (f (braced_row at (es ++ more))) tree) x
Completed l (APattern f) tree x = Part IsPattern Any (λ p. Completed l (f p) tree) x
Completed l (MoreNames at ns f) tree x = Part (AreOthers IsLabel) Any (λ more. Completed l (f (braced_pattern at (ns ++ more))) tree) x
Completed l (Nested n c) tree x = AtMost l 16 n × Completed l c tree x
Completed l (AStream around f) tree x = Streamed l around (λ s. Completed l (f s) tree) x
Completed l (MoreStages around at source ss f) tree x = Staged l around at source ss (λ s. Completed l (f s) tree) x
Completed l (AStage around at source ss f) tree x =
    Part IsStage (StageWithinDepth l around) (λ s. Staged l around at source (ss ++ s ∷ []) (λ t. Completed l (f t) tree)) x
    ⊎ (IsOutermost around × Completed l (f (From at source (stages_of_list ss))) tree x)
Completed l (ATerminal f) tree x = Terminated l (λ at t. Completed l (f at t) tree) x
Completed l (MoreDeclarations ds) tree x = Part AreDeclared Any (λ more. Ended l (ds ++ more) tree) x
