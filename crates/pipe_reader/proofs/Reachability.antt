-- The continuations that the reader comes to: each expression stands before a token that no expression goes
-- on with, each stream before a separator, and the outermost one before a bar and the terminal.
use Rattle.std.proofs.Common.{◌≡◌, ℕ, zero, suc, ◌+◌, List, [], ◌∷◌, ◌++◌, sym, ap, subst, ◌∙◌}
use Rattle.pipe_lexer.specs.declared.operator.InputKind.{InputKind}
use Rattle.pipe_lexer.specs.declared.symbol.Symbol.TheVariants as symbol
use Rattle.pipe_reader.specs.Continuations.{Continuation, End, ASeparator, ALabel, AKind, AnExpression, ARow, MoreParts, APattern, MoreNames, Nested, AStream, MoreStages, AStage, ATerminal, MoreDeclarations, folding, source_form, stage_form, terminal_form}
use Rattle.pipe_reader.specs.declared.forms.SourceForm.{SourceForm}
use Rattle.pipe_reader.specs.declared.forms.StageForm.{StageForm}
use Rattle.pipe_reader.specs.declared.forms.TerminalForm.{TerminalForm}
use Rattle.pipe_reader.specs.declared.forms.SourceForm.TheVariants.{Array as ArrayForm, Range as RangeForm, Unfold as UnfoldForm, Zip as ZipForm}
use Rattle.pipe_reader.specs.declared.forms.StageForm.TheVariants.{Map as MapForm, Filter as FilterForm, TakeWhile as TakeWhileForm, Take as TakeForm, Drop as DropForm, Scan as ScanForm, FlatMap as FlatMapForm}
use Rattle.pipe_reader.specs.declared.forms.TerminalForm.TheVariants.{Fold as FoldForm, Print as PrintForm}
use Rattle.pipe_reader.specs.declared.infix_op.InfixOp.{InfixOp}
use Rattle.pipe_tree.specs.Grammar.{IsExpression}
use Rattle.pipe_tree.specs.TreeCopies.{stages_of_list}
use Rattle.pipe_reader.specs.Machine.{IsForeign, follow_of}
use Rattle.pipe_reader.specs.declared.roles.Follow.TheVariants.{Operator, Foreign}
use Rattle.pipe_tree.specs.Tokens.{What, Sym, Tok, tok}
use Rattle.pipe_tree.specs.Trees.{Formula, Label, Row, Pattern, Stream, From, Source, Range, Unfold, Zip, Stage, Map, Filter, TakeWhile, Take, Drop, Scan, FlatMap, Terminal, Fold, Print, Text}
use Rattle.pipe_reader.proofs.ExpressionStepBack as expressions
use Rattle.pipe_reader.proofs.Completion.{separator_token, AreOthers, AreListedStages, Closing, Completed}
use Rattle.pipe_reader.proofs.Productions.{one_more}
use Rattle.pipe_reader.proofs.ExpressionStepForward.{follow_at}
use Rattle.pipe_reader.proofs.TokenClasses.{separator_foreign}
use Rattle.exact_reader.proofs.Limited.{Limits}

-- an expression may stand before this
abbrev pub IsSeparate : Continuation → Type 0
IsSeparate (End t) = Unit {0}
IsSeparate (ASeparator w c) = Unit {0}
IsSeparate (MoreParts at es f) = Unit {0}
IsSeparate (MoreStages around at source ss f) = Unit {0}
IsSeparate _ = ⊥

-- a stream may stand before this
abbrev pub Follows : ℕ → Continuation → Type 0
Follows zero (ATerminal f) = Unit {0}
Follows zero _ = ⊥
Follows (suc around) (ASeparator w c) = Unit {0}
Follows (suc around) _ = ⊥

abbrev pub IsReachable : Continuation → Type 0
IsReachable (End t) = Unit {0}
IsReachable (ASeparator w c) = IsReachable c
IsReachable (ALabel f) = (n : Label) → IsReachable (f n)
IsReachable (AKind f) = (kind : InputKind) → IsReachable (f kind)
IsReachable (AnExpression s f) = expressions.IsReachable s × ((e : Formula) → IsSeparate (f e) × IsReachable (f e))
IsReachable (ARow f) = (r : Row) → IsSeparate (f r) × IsReachable (f r)
IsReachable (MoreParts at es f) = (r : Row) → IsSeparate (f r) × IsReachable (f r)
IsReachable (APattern f) = (p : Pattern) → IsReachable (f p)
IsReachable (MoreNames at ns f) = (p : Pattern) → IsReachable (f p)
IsReachable (Nested n c) = IsReachable c
IsReachable (AStream around f) = (s : Stream) → Follows around (f s) × IsReachable (f s)
IsReachable (MoreStages around at source ss f) = (s : Stream) → Follows around (f s) × IsReachable (f s)
IsReachable (AStage around at source ss f) = (s : Stream) → Follows around (f s) × IsReachable (f s)
IsReachable (ATerminal f) = (at : ℕ) (t : Terminal) → IsSeparate (f at t) × IsReachable (f at t)
IsReachable (MoreDeclarations ds) = Unit {0}

-- ---- forms are reachable where what follows them is

abbrev MayFollow : {A : Type 0} → (A → Continuation) → Type 0
MayFollow {A} f = (a : A) → IsSeparate (f a) × IsReachable (f a)

follows_in : (around : ℕ) (c : Continuation) → Follows (suc around) c → Follows (around + 1) c
follows_in around c h = subst (λ (n : ℕ). Follows n c) (sym (one_more around)) h

folding_reachable : (f : Row → Pattern → Pattern → Row → Continuation) → ((seed : Row) (state p : Pattern) (next : Row) → IsSeparate (f seed state p next) × IsReachable (f seed state p next)) → IsReachable (folding f)
folding_reachable f h = λ seed. (tt, λ state p next. h seed state p next)

pub source_reachable : (form : SourceForm) (around : ℕ) (f : Source → Continuation) → MayFollow f → IsReachable (source_form form around f)
source_reachable ArrayForm around f h = λ n. (h _).1
source_reachable RangeForm around f h = (tt, λ a. (tt, (tt, λ b. (tt, (h (Range a b)).1))))
source_reachable UnfoldForm around f h = λ seed. (tt, λ p. (tt, λ guard. (tt, λ item. (tt, λ next. h (Unfold seed p guard item next)))))
source_reachable ZipForm around f h =
    λ a. (follows_in around _ tt, λ b. (follows_in around _ tt, (h (Zip a b)).1))

pub stage_reachable : (form : StageForm) (at around : ℕ) (f : Stage → Continuation) → MayFollow f → IsReachable (stage_form form at around f)
stage_reachable MapForm at around f h = λ p body. h (Map at p body)
stage_reachable FilterForm at around f h = λ p. (tt, λ e. h (Filter at p e))
stage_reachable TakeWhileForm at around f h = λ p. (tt, λ e. h (TakeWhile at p e))
stage_reachable TakeForm at around f h = (tt, λ e. h (Take at e))
stage_reachable DropForm at around f h = (tt, λ e. h (Drop at e))
stage_reachable ScanForm at around f h = folding_reachable (λ seed state p next. f (Scan at seed state p next)) (λ seed state p next. h (Scan at seed state p next))
stage_reachable FlatMapForm at around f h = λ p s. (follows_in around _ tt, (h (FlatMap at p s)).1)

pub terminal_reachable : (form : TerminalForm) (f : Terminal → Continuation) → MayFollow f → IsReachable (terminal_form form f)
terminal_reachable FoldForm f h = folding_reachable (λ seed state p next. f (Fold seed state p next)) (λ seed state p next. h (Fold seed state p next))
terminal_reachable PrintForm f h = (h Print).1

-- ---- the first token

-- this token is no operator
no_operator : (x : List Tok) (what : What) (at : ℕ) (rest : List Tok) (operator : InfixOp) → x ≡ tok what at ∷ rest → IsForeign (follow_of what) → follow_at x ≡ Operator operator → ⊥
no_operator x what at rest operator is h e = subst IsForeign (sym (ap follow_at is) ∙ e) h

others_separate : (es : List Formula) (x r : List Tok) (operator : InfixOp) → AreOthers IsExpression es x r → follow_at x ≡ Operator operator → ⊥
others_separate [] x r operator h e = no_operator x (Sym symbol.CloseBrace) h.at h.rest operator h.is tt e
others_separate (f ∷ es) x r operator h e = no_operator x (Sym symbol.Comma) h.at h.rest operator h.is tt e

-- nor where a stream that stands is over
stream_separates : (around : ℕ) (c : Continuation) (l : Limits) (tree : Text) (x : List Tok) (operator : InfixOp) → Follows around c → (IsSeparate c → Completed l c tree x → follow_at x ≡ Operator operator → ⊥) → Closing around (Completed l c tree) x
    → follow_at x ≡ Operator operator → ⊥
stream_separates zero c l tree x operator fo next k e = no_operator x (Sym symbol.Bar) k.at k.rest operator k.is tt e
stream_separates (suc around) (ASeparator w c) l tree x operator fo next k e = next tt k e
stream_separates (suc around) _ l tree x operator fo next k e = absurd fo

stages_separate : (around : ℕ) (f : Stream → Continuation) (at : ℕ) (source : Source) (ss more : List Stage) (l : Limits) (tree : Text) (x r : List Tok) (operator : InfixOp) → ((s : Stream) → Follows around (f s))
    → ((s : Stream) → IsSeparate (f s) → Completed l (f s) tree r → follow_at r ≡ Operator operator → ⊥) → AreListedStages more x r → Closing around (Completed l (f (From at source (stages_of_list (ss ++ more)))) tree) r
    → follow_at x ≡ Operator operator → ⊥
stages_separate around f at source ss [] l tree x r operator fo next p k e =
    let s = From at source (stages_of_list (ss ++ [])) in
    stream_separates around (f s) l tree r operator (fo s) (next s) k (subst (λ (y : List Tok). follow_at y ≡ Operator operator) p e)
stages_separate around f at source ss (s ∷ more) l tree x r operator fo next p k e = no_operator x (Sym symbol.Bar) p.at p.rest operator p.is tt e

-- what completes this continuation begins with no operator
pub separates : (c : Continuation) (l : Limits) (tree : Text) (x : List Tok) (operator : InfixOp) → IsSeparate c → IsReachable c → Completed l c tree x → follow_at x ≡ Operator operator → ⊥
separates (End t) l tree x operator i st h e = let f : follow_at x ≡ Foreign = ap follow_at h.1 in absurd cc
separates (ASeparator w c) l tree x operator i st h e = no_operator x (separator_token w) h.at h.rest operator h.is (separator_foreign w) e
separates (MoreParts at es f) l tree x operator i st h e = others_separate h.value x h.rest operator h.phrase e
separates (MoreStages around at source ss f) l tree x operator i st h e =
    stages_separate around f at source ss h.value l tree x h.rest operator (λ s. (st s).0) (λ s sep k g. separates (f s) l tree h.rest operator sep (st s).1 k g) h.phrase h.after e
separates _ l tree x operator i st h e = absurd i
