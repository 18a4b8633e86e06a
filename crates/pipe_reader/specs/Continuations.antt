-- A reader of whole texts, one token at a time. Its state is what is still to come of the text, with the
-- tree that it makes in the end. Expressions are read by the reader of expressions, in a part of the state.
use Rattle.std.specs.Prelude.{ℕ, zero, suc, ◌+◌, List, [], ◌∷◌, ◌++◌, Bool, true, false, cond, ◌==◌, Option, Some, None}
use Rattle.pipe_lexer.specs.declared.keyword.Keyword.TheVariants as key
use Rattle.pipe_lexer.specs.declared.operator.InputKind.{InputKind}
use Rattle.pipe_lexer.specs.declared.operator.InputKind.TheVariants as input
use Rattle.pipe_lexer.specs.declared.symbol.Symbol.TheVariants as symbol
use Rattle.pipe_reader.specs.declared.separator.Separator.{Separator}
use Rattle.pipe_reader.specs.declared.separator.Separator.TheVariants.{With, While, Yield, Next, Arrow, OpenParen, CloseParen, CloseBrace, Comma, Colon, Semicolon}
use Rattle.pipe_reader.specs.declared.forms.SourceForm.{SourceForm}
use Rattle.pipe_reader.specs.declared.forms.SourceForm.TheVariants.{Array as ArrayForm, Range as RangeForm, Unfold as UnfoldForm, Zip as ZipForm}
use Rattle.pipe_reader.specs.declared.forms.StageForm.{StageForm}
use Rattle.pipe_reader.specs.declared.forms.StageForm.TheVariants.{Map as MapForm, Filter as FilterForm, TakeWhile as TakeWhileForm, Take as TakeForm, Drop as DropForm, Scan as ScanForm, FlatMap as FlatMapForm}
use Rattle.pipe_reader.specs.declared.forms.TerminalForm.{TerminalForm}
use Rattle.pipe_reader.specs.declared.forms.TerminalForm.TheVariants.{Fold as FoldForm, Print as PrintForm}
use Rattle.pipe_reader.specs.Depths.{tested_depth}
use Rattle.exact_reader.specs.Exactness.{Reader, Outcome, run}
use Rattle.pipe_reader.specs.Machine as machine
use Rattle.pipe_reader.specs.Machine.{Need, Goes, Leaves, Stuck, at_most}
use Rattle.pipe_tree.specs.Tokens.{What, Named, Number, Key, Sym, Tok}
use Rattle.pipe_tree.specs.TreeCopies.{stages_of_list}
use Rattle.pipe_tree.specs.Trees.{Formula, offset_of, Label, Row, Pattern, Stream, From, Source, Array, Range, Unfold, Zip, Stage, Map, Filter, TakeWhile, Take, Drop, Scan, FlatMap, Terminal, Fold, Print, Declaration, Text}
use Rattle.pipe_limits.specs.declared.TheConstants.{MOST_DEPTH, MOST_NESTING}

-- ---- tokens, as the forms around expressions see them

-- a name, a separator, `|`, `{`, `input`, `int`, the keyword of a form, or none of these
pub data TokenClass : Type 0 where
  Names : List ℕ → TokenClass
  Separates : Separator → TokenClass
  Bars Braces Declares IsInt : TokenClass
  BeginsSource : SourceForm → TokenClass
  BeginsStage : StageForm → TokenClass
  BeginsTerminal : TerminalForm → TokenClass
  OtherToken : TokenClass

abbrev pub class_of : What → TokenClass
class_of (Named text) = Names text
class_of (Number w) = OtherToken
class_of (Key key.With) = Separates With
class_of (Key key.While) = Separates While
class_of (Key key.Yield) = Separates Yield
class_of (Key key.Next) = Separates Next
class_of (Sym symbol.Arrow) = Separates Arrow
class_of (Sym symbol.OpenParen) = Separates OpenParen
class_of (Sym symbol.CloseParen) = Separates CloseParen
class_of (Sym symbol.CloseBrace) = Separates CloseBrace
class_of (Sym symbol.Comma) = Separates Comma
class_of (Sym symbol.Colon) = Separates Colon
class_of (Sym symbol.Semicolon) = Separates Semicolon
class_of (Sym symbol.Bar) = Bars
class_of (Sym symbol.OpenBrace) = Braces
class_of (Key key.Input) = Declares
class_of (Key key.Int) = IsInt
class_of (Key key.Array) = BeginsSource ArrayForm
class_of (Key key.Range) = BeginsSource RangeForm
class_of (Key key.Unfold) = BeginsSource UnfoldForm
class_of (Key key.Zip) = BeginsSource ZipForm
class_of (Key key.Map) = BeginsStage MapForm
class_of (Key key.Filter) = BeginsStage FilterForm
class_of (Key key.TakeWhile) = BeginsStage TakeWhileForm
class_of (Key key.Take) = BeginsStage TakeForm
class_of (Key key.Drop) = BeginsStage DropForm
class_of (Key key.Scan) = BeginsStage ScanForm
class_of (Key key.FlatMap) = BeginsStage FlatMapForm
class_of (Key key.Fold) = BeginsTerminal FoldForm
class_of (Key key.Print) = BeginsTerminal PrintForm
class_of (Key _) = OtherToken
class_of (Sym _) = OtherToken

-- the separators by number
abbrev pub separator_number : Separator → ℕ
separator_number With = 0
separator_number While = 1
separator_number Yield = 2
separator_number Next = 3
separator_number Arrow = 4
separator_number OpenParen = 5
separator_number CloseParen = 6
separator_number CloseBrace = 7
separator_number Comma = 8
separator_number Colon = 9
separator_number Semicolon = 10

abbrev pub is_separator : Separator → TokenClass → Bool
is_separator w (Separates v) = separator_number w == separator_number v
is_separator w _ = false

-- ---- what is still to come

pub data Continuation : Type 0 where
  -- nothing, where the tokens end
  End : Text → Continuation
  -- a separator
  ASeparator : Separator → Continuation → Continuation
  ALabel : (Label → Continuation) → Continuation
  -- `array` or `int`
  AKind : (InputKind → Continuation) → Continuation
  -- an expression, which the reader of expressions is in this state of
  AnExpression : machine.State → (Formula → Continuation) → Continuation
  ARow : (Row → Continuation) → Continuation
  -- a comma and a part, or the closing brace, behind the parts of a row
  MoreParts : (at : ℕ) → List Formula → (Row → Continuation) → Continuation
  APattern : (Pattern → Continuation) → Continuation
  MoreNames : (at : ℕ) → List Label → (Pattern → Continuation) → Continuation
  -- what has a stream in it that is nested so deep
  Nested : (nesting : ℕ) → Continuation → Continuation
  -- a stream that stands in this number of others
  AStream : (around : ℕ) → (Stream → Continuation) → Continuation
  -- a bar and a stage, or what follows the stream; behind the outermost stream this is a bar and the terminal
  MoreStages : (around at : ℕ) → Source → List Stage → (Stream → Continuation) → Continuation
  -- behind a bar
  AStage : (around at : ℕ) → Source → List Stage → (Stream → Continuation) → Continuation
  ATerminal : (ℕ → Terminal → Continuation) → Continuation
  -- a declaration, or the stream
  MoreDeclarations : List Declaration → Continuation

-- ---- the productions of the grammar, each as what is still to come

abbrev pub expression : (Formula → Continuation) → Continuation
expression f = AnExpression (Need []) f

abbrev pub folding : (Row → Pattern → Pattern → Row → Continuation) → Continuation
folding f = ARow (λ seed. ASeparator With (APattern (λ state. APattern (λ p. ASeparator Arrow (ARow (λ next. f seed state p next))))))

-- what follows the keyword of a source that stands in this number of streams
abbrev pub source_form : SourceForm → ℕ → (Source → Continuation) → Continuation
source_form ArrayForm around f = ALabel (λ n. f (Array n))
source_form RangeForm around f = ASeparator OpenParen (expression (λ a. ASeparator Comma (expression (λ b. ASeparator CloseParen (f (Range a b))))))
source_form UnfoldForm around f =
    ARow (λ seed. ASeparator With (APattern (λ p. ASeparator While (expression (λ guard. ASeparator Yield (ARow (λ item. ASeparator Next (ARow (λ next. f (Unfold seed p guard item next))))))))))
source_form ZipForm around f =
    Nested (around + 2) (ASeparator OpenParen (AStream (around + 1) (λ a. ASeparator Comma (AStream (around + 1) (λ b. ASeparator CloseParen (f (Zip a b)))))))

-- what follows the keyword of a stage, whose offset this is
abbrev pub stage_form : StageForm → ℕ → ℕ → (Stage → Continuation) → Continuation
stage_form MapForm at around f = APattern (λ p. ASeparator Arrow (ARow (λ body. f (Map at p body))))
stage_form FilterForm at around f = APattern (λ p. ASeparator Arrow (expression (λ e. f (Filter at p e))))
stage_form TakeWhileForm at around f = APattern (λ p. ASeparator Arrow (expression (λ e. f (TakeWhile at p e))))
stage_form TakeForm at around f = expression (λ e. f (Take at e))
stage_form DropForm at around f = expression (λ e. f (Drop at e))
stage_form ScanForm at around f = folding (λ seed state p next. f (Scan at seed state p next))
stage_form FlatMapForm at around f =
    Nested (around + 2) (APattern (λ p. ASeparator Arrow (ASeparator OpenParen (AStream (around + 1) (λ s. ASeparator CloseParen (f (FlatMap at p s)))))))

abbrev pub terminal_form : TerminalForm → (Terminal → Continuation) → Continuation
terminal_form FoldForm f = folding (λ seed state p next. f (Fold seed state p next))
terminal_form PrintForm f = f Print

-- what follows `input`, whose offset this is
abbrev pub declaration_form : ℕ → (Declaration → Continuation) → Continuation
declaration_form at f = ALabel (λ n. ASeparator Colon (AKind (λ kind. ASeparator Semicolon (f (record { at = at; name = n; kind = kind })))))

-- what follows the outermost stream and a bar
abbrev pub ending : List Declaration → Stream → Continuation
ending ds s = ATerminal (λ at t. End (record { inputs = ds; stream = s; terminal_at = at; terminal = t }))

abbrev pub single_row : Formula → Row
single_row e = record { at = offset_of e; braces = false; parts = e ∷ [] }

abbrev pub braced_row : ℕ → List Formula → Row
braced_row at es = record { at = at; braces = true; parts = es }

abbrev pub single_pattern : Label → Pattern
single_pattern n = record { at = n.at; braces = false; names = n ∷ [] }

abbrev pub braced_pattern : ℕ → List Label → Pattern
braced_pattern at ns = record { at = at; braces = true; names = ns }

-- ---- one token

-- the state that a token leads to, if it leads to any
abbrev pub Move : Type 0
Move = Option Continuation

abbrev pub move_by_name : TokenClass → (List ℕ → Continuation) → Move
move_by_name (Names text) f = Some (f text)
move_by_name _ f = None

abbrev pub move_by_kind : TokenClass → (InputKind → Continuation) → Move
move_by_kind (BeginsSource ArrayForm) f = Some (f input.Array)
move_by_kind IsInt f = Some (f input.Int)
move_by_kind _ f = None

abbrev pub move_by_step : machine.Step → (machine.State → Continuation) → (Formula → Move) → Move
move_by_step (Goes s) goes leaves = Some (goes s)
move_by_step (Leaves e) goes leaves = leaves e
move_by_step Stuck goes leaves = None

-- `{`, or something else
abbrev pub move_by_brace : TokenClass → Continuation → Move → Move
move_by_brace Braces c other = Some c
move_by_brace _ c other = other

-- `,` or `}`
abbrev pub move_in_list : TokenClass → Continuation → Continuation → Move
move_in_list (Separates Comma) more closed = Some more
move_in_list (Separates CloseBrace) more closed = Some closed
move_in_list _ more closed = None

abbrev pub move_by_source : TokenClass → (SourceForm → Continuation) → Move
move_by_source (BeginsSource form) f = Some (f form)
move_by_source _ f = None

abbrev pub move_by_stage : TokenClass → (StageForm → Continuation) → Move → Move
move_by_stage (BeginsStage form) f other = Some (f form)
move_by_stage _ f other = other

abbrev pub move_by_terminal : TokenClass → (TerminalForm → Continuation) → Move
move_by_terminal (BeginsTerminal form) f = Some (f form)
move_by_terminal _ f = None

abbrev pub move_by_input : TokenClass → Continuation → Move → Move
move_by_input Declares c other = Some c
move_by_input _ c other = other

-- `|`, or something else
abbrev pub move_by_bar : TokenClass → Continuation → Move → Move
move_by_bar Bars c other = Some c
move_by_bar _ c other = other

-- only in other streams, or only in none
abbrev pub if_inner : {A : Type 0} → ℕ → Option A → Option A
if_inner zero o = None
if_inner (suc around) o = o

abbrev pub if_outermost : {A : Type 0} → ℕ → Option A → Option A
if_outermost zero o = o
if_outermost (suc around) o = None

abbrev pub step : Continuation → What → ℕ → Move
step (End t) k p = None
step (ASeparator w c) k p = cond (is_separator w (class_of k)) (Some c) None
step (ALabel f) k p = move_by_name (class_of k) (λ text. f (record { at = p; text = text }))
step (AKind f) k p = move_by_kind (class_of k) f
step (AnExpression s f) k p = move_by_step (machine.step s k p) (λ n. AnExpression n f) (λ e. step (f e) k p)
step (ARow f) k p =
    move_by_brace (class_of k) (expression (λ e. MoreParts p (e ∷ []) f)) (move_by_step (machine.step (Need []) k p) (λ n. AnExpression n (λ e. f (single_row e))) (λ e. None))
step (MoreParts at es f) k p = move_in_list (class_of k) (expression (λ e. MoreParts at (es ++ e ∷ []) f)) (f (braced_row at es))
step (APattern f) k p =
    move_by_brace (class_of k) (ALabel (λ n. MoreNames p (n ∷ []) f)) (move_by_name (class_of k) (λ text. f (single_pattern (record { at = p; text = text }))))
step (MoreNames at ns f) k p = move_in_list (class_of k) (ALabel (λ n. MoreNames at (ns ++ n ∷ []) f)) (f (braced_pattern at ns))
step (Nested n c) k p = step c k p
step (AStream around f) k p = move_by_source (class_of k) (λ form. source_form form around (λ source. MoreStages around p source [] f))
step (MoreStages around at source ss f) k p =
    move_by_bar (class_of k) (AStage around at source ss f) (if_inner around (step (f (From at source (stages_of_list ss))) k p))
step (AStage around at source ss f) k p =
    move_by_stage (class_of k) (λ form. stage_form form p around (λ s. MoreStages around at source (ss ++ s ∷ []) f)) (if_outermost around (step (f (From at source (stages_of_list ss))) k p))
step (ATerminal f) k p = move_by_terminal (class_of k) (λ form. terminal_form form (f p))
step (MoreDeclarations ds) k p =
    move_by_input (class_of k) (declaration_form p (λ d. MoreDeclarations (ds ++ d ∷ [])))
    (move_by_source (class_of k) (λ form. source_form form 0 (λ source. MoreStages 0 p source [] (ending ds))))

-- ---- where the tokens end

abbrev pub finish_by_step : machine.Step → (Formula → Option Text) → Option Text
finish_by_step (Goes s) leaves = None
finish_by_step (Leaves e) leaves = leaves e
finish_by_step Stuck leaves = None

abbrev pub finish : Continuation → Option Text
finish (End t) = Some t
finish (ASeparator w c) = None
finish (ALabel f) = None
finish (AKind f) = None
finish (AnExpression s f) = finish_by_step (machine.finish s) (λ e. finish (f e))
finish (ARow f) = None
finish (MoreParts at es f) = None
finish (APattern f) = None
finish (MoreNames at ns f) = None
finish (Nested n c) = finish c
finish (AStream around f) = None
finish (MoreStages around at source ss f) = if_inner around (finish (f (From at source (stages_of_list ss))))
finish (AStage around at source ss f) = None
finish (ATerminal f) = None
finish (MoreDeclarations ds) = None

-- the expression that is read isn't too deep, and the stream that is to come isn't nested too deep
abbrev pub is_within_depth : Continuation → Bool
is_within_depth (AnExpression s f) = at_most (tested_depth s) MOST_DEPTH
is_within_depth (Nested n c) = at_most n MOST_NESTING
is_within_depth _ = true

-- ---- the reader of texts

abbrev pub text_reader : Reader Tok Text
text_reader = record { State = Continuation; step = λ s t. step s t.what t.at; finish = finish; is_within_depth = is_within_depth }

-- what the reader makes of tokens
abbrev pub read_from : Continuation → List Tok → Outcome Tok Text
read_from = run text_reader

abbrev pub read_text : List Tok → Outcome Tok Text
read_text = read_from (MoreDeclarations [])
