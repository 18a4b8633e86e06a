-- The classes of tokens: of which class each keyword and separator is, and which token is of which class.
use Rattle.std.proofs.Common.{◌≡◌, ℕ, zero, suc, true, refl, sym, ap, ◌∙◌}
use Rattle.std.proofs.lemmas.Bool.{eqb-true}
use Rattle.pipe_lexer.specs.declared.keyword.Keyword.TheVariants as key
use Rattle.pipe_lexer.specs.declared.symbol.Symbol.TheVariants as symbol
use Rattle.pipe_reader.specs.declared.separator.Separator.{Separator}
use Rattle.pipe_reader.specs.declared.separator.Separator.TheVariants.{With, While, Yield, Next, Arrow, OpenParen, CloseParen, CloseBrace, Comma, Colon, Semicolon}
use Rattle.pipe_reader.specs.Continuations.{TokenClass, Names, Separates, Bars, Braces, Declares, IsInt, BeginsSource, BeginsStage, BeginsTerminal, OtherToken, class_of, separator_number, is_separator}
use Rattle.pipe_reader.specs.declared.forms.SourceForm.{SourceForm}
use Rattle.pipe_reader.specs.declared.forms.StageForm.{StageForm}
use Rattle.pipe_reader.specs.declared.forms.TerminalForm.{TerminalForm}
use Rattle.pipe_reader.specs.declared.forms.SourceForm.TheVariants.{Array as ArrayForm, Range as RangeForm, Unfold as UnfoldForm, Zip as ZipForm}
use Rattle.pipe_reader.specs.declared.forms.StageForm.TheVariants.{Map as MapForm, Filter as FilterForm, TakeWhile as TakeWhileForm, Take as TakeForm, Drop as DropForm, Scan as ScanForm, FlatMap as FlatMapForm}
use Rattle.pipe_reader.specs.declared.forms.TerminalForm.TheVariants.{Fold as FoldForm, Print as PrintForm}
use Rattle.pipe_reader.specs.Machine.{follow_of, IsForeign}
use Rattle.pipe_tree.specs.Tokens.{What, Named, Number, Key, Sym}
use Rattle.pipe_reader.proofs.Completion.{separator_token}

abbrev pub source_keyword : SourceForm → What
source_keyword ArrayForm = Key key.Array
source_keyword RangeForm = Key key.Range
source_keyword UnfoldForm = Key key.Unfold
source_keyword ZipForm = Key key.Zip

abbrev pub stage_keyword : StageForm → What
stage_keyword MapForm = Key key.Map
stage_keyword FilterForm = Key key.Filter
stage_keyword TakeWhileForm = Key key.TakeWhile
stage_keyword TakeForm = Key key.Take
stage_keyword DropForm = Key key.Drop
stage_keyword ScanForm = Key key.Scan
stage_keyword FlatMapForm = Key key.FlatMap

abbrev pub terminal_keyword : TerminalForm → What
terminal_keyword FoldForm = Key key.Fold
terminal_keyword PrintForm = Key key.Print

-- ---- keywords and separators are of their class

pub class_of-separator_token : (w : Separator) → class_of (separator_token w) ≡ Separates w
class_of-separator_token With = refl
class_of-separator_token _ = refl

pub class_of-source_keyword : (form : SourceForm) → class_of (source_keyword form) ≡ BeginsSource form
class_of-source_keyword ArrayForm = refl
class_of-source_keyword _ = refl

pub class_of-stage_keyword : (form : StageForm) → class_of (stage_keyword form) ≡ BeginsStage form
class_of-stage_keyword MapForm = refl
class_of-stage_keyword _ = refl

pub class_of-terminal_keyword : (form : TerminalForm) → class_of (terminal_keyword form) ≡ BeginsTerminal form
class_of-terminal_keyword FoldForm = refl
class_of-terminal_keyword PrintForm = refl

-- ---- and no others do

abbrev pub IsOfClass : TokenClass → What → Type 0
IsOfClass (Names text) k = k ≡ Named text
IsOfClass (Separates w) k = k ≡ separator_token w
IsOfClass Bars k = k ≡ Sym symbol.Bar
IsOfClass Braces k = k ≡ Sym symbol.OpenBrace
IsOfClass Declares k = k ≡ Key key.Input
IsOfClass IsInt k = k ≡ Key key.Int
IsOfClass (BeginsSource form) k = k ≡ source_keyword form
IsOfClass (BeginsStage form) k = k ≡ stage_keyword form
IsOfClass (BeginsTerminal form) k = k ≡ terminal_keyword form
IsOfClass OtherToken k = Unit {0}

pub is_of_class : (k : What) → IsOfClass (class_of k) k
is_of_class (Named text) = refl
is_of_class (Number w) = tt
is_of_class (Key key.With) = refl
is_of_class (Key key.While) = refl
is_of_class (Key key.Yield) = refl
is_of_class (Key key.Next) = refl
is_of_class (Sym symbol.Arrow) = refl
is_of_class (Sym symbol.OpenParen) = refl
is_of_class (Sym symbol.CloseParen) = refl
is_of_class (Sym symbol.CloseBrace) = refl
is_of_class (Sym symbol.Comma) = refl
is_of_class (Sym symbol.Colon) = refl
is_of_class (Sym symbol.Semicolon) = refl
is_of_class (Sym symbol.Bar) = refl
is_of_class (Sym symbol.OpenBrace) = refl
is_of_class (Key key.Input) = refl
is_of_class (Key key.Int) = refl
is_of_class (Key key.Array) = refl
is_of_class (Key key.Range) = refl
is_of_class (Key key.Unfold) = refl
is_of_class (Key key.Zip) = refl
is_of_class (Key key.Map) = refl
is_of_class (Key key.Filter) = refl
is_of_class (Key key.TakeWhile) = refl
is_of_class (Key key.Take) = refl
is_of_class (Key key.Drop) = refl
is_of_class (Key key.Scan) = refl
is_of_class (Key key.FlatMap) = refl
is_of_class (Key key.Fold) = refl
is_of_class (Key key.Print) = refl
is_of_class (Key _) = tt
is_of_class (Sym _) = tt

-- ---- separators

pub is_itself : (w : Separator) → is_separator w (Separates w) ≡ true
is_itself With = refl
is_itself _ = refl

abbrev separator_at : ℕ → Separator
separator_at zero = With
separator_at (suc zero) = While
separator_at (suc (suc zero)) = Yield
separator_at (suc (suc (suc zero))) = Next
separator_at (suc (suc (suc (suc zero)))) = Arrow
separator_at (suc (suc (suc (suc (suc zero))))) = OpenParen
separator_at (suc (suc (suc (suc (suc (suc zero)))))) = CloseParen
separator_at (suc (suc (suc (suc (suc (suc (suc zero))))))) = CloseBrace
separator_at (suc (suc (suc (suc (suc (suc (suc (suc zero)))))))) = Comma
separator_at (suc (suc (suc (suc (suc (suc (suc (suc (suc zero))))))))) = Colon
separator_at (suc (suc (suc (suc (suc (suc (suc (suc (suc (suc n)))))))))) = Semicolon

separator_at-separator_number : (w : Separator) → separator_at (separator_number w) ≡ w
separator_at-separator_number With = refl
separator_at-separator_number _ = refl

one_number : (w v : Separator) → separator_number w ≡ separator_number v → w ≡ v
one_number w v e = sym (separator_at-separator_number w) ∙ (ap separator_at e ∙ separator_at-separator_number v)

separator_of_class : (w : Separator) (d : TokenClass) (k : What) → IsOfClass d k → is_separator w d ≡ true → k ≡ separator_token w
separator_of_class w (Separates v) k h e = h ∙ sym (ap separator_token (one_number w v (eqb-true (separator_number w) (separator_number v) e)))
separator_of_class w (Names text) k h e = absurd cc
separator_of_class w Bars k h e = absurd cc
separator_of_class w Braces k h e = absurd cc
separator_of_class w Declares k h e = absurd cc
separator_of_class w IsInt k h e = absurd cc
separator_of_class w (BeginsSource form) k h e = absurd cc
separator_of_class w (BeginsStage form) k h e = absurd cc
separator_of_class w (BeginsTerminal form) k h e = absurd cc
separator_of_class w OtherToken k h e = absurd cc

-- the token is the separator that is asked for
pub separator_is : (w : Separator) (k : What) → is_separator w (class_of k) ≡ true → k ≡ separator_token w
separator_is w k e = separator_of_class w (class_of k) k (is_of_class k) e

-- no separator is an operator of expressions
pub separator_foreign : (w : Separator) → IsForeign (follow_of (separator_token w))
separator_foreign With = tt
separator_foreign _ = tt
