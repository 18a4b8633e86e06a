-- The reader's own test at each token decides whether some text within the limits goes on.
use Rattle.std.proofs.lemmas.Bool.{cases_Bool}
use Rattle.std.proofs.Common.{◌≡◌, ℕ, zero, suc, ◌≤◌, ◌+◌, List, [], ◌∷◌, ◌++◌, inl, inr, Some, None, true, cond, refl, subst, arith}
use Rattle.pipe_lexer.specs.declared.operator.InputKind.TheVariants as input
use Rattle.pipe_reader.specs.declared.separator.Separator.TheVariants as separator
use Rattle.pipe_tree.specs.Bounds.{depth_of}
use Rattle.pipe_reader.specs.Continuations.{Continuation, End, ASeparator, ALabel, AKind, AnExpression, ARow, MoreParts, APattern, MoreNames, Nested, AStream, MoreStages, AStage, ATerminal, MoreDeclarations, expression, folding, ending, source_form, stage_form, terminal_form, declaration_form, single_row, braced_row, single_pattern, braced_pattern, TokenClass, Names, Separates, Bars, Braces, Declares, IsInt, BeginsSource, BeginsStage, BeginsTerminal, class_of, is_separator, move_by_name, move_by_kind, move_by_step, move_by_brace, move_in_list, move_by_source, move_by_stage, move_by_terminal, move_by_input, move_by_bar, if_inner, if_outermost, step, is_within_depth}
use Rattle.pipe_reader.specs.declared.forms.SourceForm.{SourceForm}
use Rattle.pipe_reader.specs.declared.forms.StageForm.{StageForm}
use Rattle.pipe_reader.specs.declared.forms.TerminalForm.{TerminalForm}
use Rattle.pipe_reader.specs.declared.forms.SourceForm.TheVariants.{Array as ArrayForm, Range as RangeForm, Unfold as UnfoldForm, Zip as ZipForm}
use Rattle.pipe_reader.specs.declared.forms.StageForm.TheVariants.{Map as MapForm, Filter as FilterForm, TakeWhile as TakeWhileForm, Take as TakeForm, Drop as DropForm, Scan as ScanForm, FlatMap as FlatMapForm}
use Rattle.pipe_reader.specs.declared.forms.TerminalForm.TheVariants.{Fold as FoldForm, Print as PrintForm}
use Rattle.pipe_reader.specs.Depths.{least_depth_of, tested_depth}
use Rattle.pipe_reader.specs.Machine as machine
use Rattle.pipe_reader.specs.Machine.{Need, Goes, Leaves, Stuck}
use Rattle.pipe_tree.specs.Tokens.{What, Tok}
use Rattle.pipe_tree.specs.TreeCopies.{stages_of_list}
use Rattle.pipe_tree.specs.Trees.{Formula, Row, Pattern, Stream, From, Source, Array, Range, Unfold, Zip, Stage, Map, Filter, TakeWhile, Take, Drop, Scan, FlatMap, Terminal, Fold, Print, Declaration, Text}
use Rattle.pipe_reader.proofs.Completion.{Completed}
use Rattle.pipe_reader.proofs.ExpressionCompletion.{completes_least}
use Rattle.pipe_reader.proofs.WithinDepth.{WithinDepth}
use Rattle.exact_reader.proofs.Limited.{Within}
use Rattle.pipe_reader.proofs.ExpressionDepthTest.{tested_depth_below, tested_depth_decides}
use Rattle.pipe_reader.proofs.OperatorTables.{at_most-true, at_most-is}

-- what some text within the limits completes passes the test
pub within_depth : (c : Continuation) (tree : Text) (x : List Tok) → Completed Within c tree x → is_within_depth c ≡ true
within_depth (AnExpression s f) tree x h =
    at_most-true (tested_depth s) 200
    (omega (arith, tested_depth_below s, completes_least s (λ e y. (depth_of e ≤ 200) × Completed Within (f e) tree y) 200 x (λ v y k. k.0) h))
within_depth (Nested n c) tree x h = at_most-true n 16 h.0
within_depth _ tree x h = refl

-- ---- forms fit where what follows them does

folding_within : (f : Row → Pattern → Pattern → Row → Continuation) → ((seed : Row) (state p : Pattern) (next : Row) → WithinDepth Within (f seed state p next)) → WithinDepth Within (folding f)
folding_within f h = h

one_within : 1 ≤ 200
one_within = omega arith

source_within : (form : SourceForm) (around : ℕ) (f : Source → Continuation) → ((so : Source) → WithinDepth Within (f so)) → is_within_depth (source_form form around f) ≡ true → WithinDepth Within (source_form form around f)
source_within ArrayForm around f h e = λ n. h (Array n)
source_within RangeForm around f h e = (one_within, λ a. (one_within, λ b. h (Range a b)))
source_within UnfoldForm around f h e = λ seed p. (one_within, λ guard item next. h (Unfold seed p guard item next))
source_within ZipForm around f h e =
    let n : around + 2 ≤ 16 = at_most-is (around + 2) 16 e in
    let m : around + 1 + 1 ≤ 16 = omega arith in
    (n, (m, λ a. (m, λ b. h (Zip a b))))

stage_within : (form : StageForm) (at around : ℕ) (f : Stage → Continuation) → ((s : Stage) → WithinDepth Within (f s)) → is_within_depth (stage_form form at around f) ≡ true → WithinDepth Within (stage_form form at around f)
stage_within MapForm at around f h e = λ p body. h (Map at p body)
stage_within FilterForm at around f h e = λ p. (one_within, λ g. h (Filter at p g))
stage_within TakeWhileForm at around f h e = λ p. (one_within, λ g. h (TakeWhile at p g))
stage_within TakeForm at around f h e = (one_within, λ g. h (Take at g))
stage_within DropForm at around f h e = (one_within, λ g. h (Drop at g))
stage_within ScanForm at around f h e = folding_within (λ seed state p next. f (Scan at seed state p next)) (λ seed state p next. h (Scan at seed state p next))
stage_within FlatMapForm at around f h e =
    let n : around + 2 ≤ 16 = at_most-is (around + 2) 16 e in
    let m : around + 1 + 1 ≤ 16 = omega arith in
    (n, λ p. (m, λ s. h (FlatMap at p s)))

terminal_within : (form : TerminalForm) (f : Terminal → Continuation) → ((t : Terminal) → WithinDepth Within (f t)) → WithinDepth Within (terminal_form form f)
terminal_within FoldForm f h = folding_within (λ seed state p next. f (Fold seed state p next)) (λ seed state p next. h (Fold seed state p next))
terminal_within PrintForm f h = h Print

-- ---- the test decides

module _ (k : What) (p : ℕ) where
  within_as : (m n : Continuation) → Some m ≡ Some n → (is_within_depth m ≡ true → WithinDepth Within m) → is_within_depth n ≡ true → WithinDepth Within n
  within_as m n e h = let i : m ≡ n = cc in subst (λ (q : Continuation). is_within_depth q ≡ true → WithinDepth Within q) i h

  separator_within : (w : _) (c n : Continuation) → WithinDepth Within c → cond (is_separator w (class_of k)) (Some c) None ≡ Some n → is_within_depth n ≡ true → WithinDepth Within n
  separator_within w c n fit e =
      elim (cases_Bool (is_separator w (class_of k))) [
        | inl b ↦ let e2 : Some c ≡ Some n = rw b at e in within_as c n e2 (λ t. fit)
        | inr b ↦ let e2 : None ≡ Some n = rw b at e in absurd cc
      ]

  name_within : (d : TokenClass) (f : List ℕ → Continuation) (n : Continuation) → ((text : List ℕ) → WithinDepth Within (f text)) → move_by_name d f ≡ Some n → is_within_depth n ≡ true → WithinDepth Within n
  name_within (Names text) f n fit e = within_as (f text) n e (λ t. fit text)
  name_within _ f n fit e = absurd cc

  kind_within : (d : TokenClass) (f : _ → Continuation) (n : Continuation) → WithinDepth Within (AKind f) → move_by_kind d f ≡ Some n → is_within_depth n ≡ true → WithinDepth Within n
  kind_within (BeginsSource ArrayForm) f n fit e = within_as (f input.Array) n e (λ t. fit input.Array)
  kind_within IsInt f n fit e = within_as (f input.Int) n e (λ t. fit input.Int)
  kind_within _ f n fit e = absurd cc

  goes_within : (s m : machine.State) (f : Formula → Continuation) → machine.step s k p ≡ Goes m → least_depth_of s ≤ 200 → ((e : Formula) → WithinDepth Within (f e)) → is_within_depth (AnExpression m f) ≡ true → WithinDepth Within (AnExpression m f)
  goes_within s m f i le fit t = (tested_depth_decides s k p m 200 i le (at_most-is (tested_depth m) 200 t), fit)

  expression_within : (s : machine.State) (g : machine.Step) (f : Formula → Continuation) (n : Continuation) → machine.step s k p ≡ g → WithinDepth Within (AnExpression s f)
      → ((e : Formula) → step (f e) k p ≡ Some n → is_within_depth n ≡ true → WithinDepth Within n) → move_by_step g (λ m. AnExpression m f) (λ e. step (f e) k p) ≡ Some n → is_within_depth n ≡ true → WithinDepth Within n
  expression_within s (Goes m) f n i fit next e = within_as (AnExpression m f) n e (goes_within s m f i fit.0 fit.1)
  expression_within s (Leaves u) f n i fit next e = next u e
  expression_within s Stuck f n i fit next e = absurd cc

  single_within : (g : machine.Step) (f : Row → Continuation) (n : Continuation) → machine.step (Need []) k p ≡ g → WithinDepth Within (ARow f) → move_by_step g (λ m. AnExpression m (λ e. f (single_row e))) (λ e. None) ≡ Some n → is_within_depth n ≡ true → WithinDepth Within n
  single_within (Goes m) f n i fit e = within_as (AnExpression m (λ e. f (single_row e))) n e (goes_within (Need []) m (λ e. f (single_row e)) i (omega arith) (λ e. fit (single_row e)))
  single_within (Leaves u) f n i fit e = absurd cc
  single_within Stuck f n i fit e = absurd cc

  row_within : (d : TokenClass) (f : Row → Continuation) (n : Continuation) → WithinDepth Within (ARow f)
      → move_by_brace d (expression (λ e. MoreParts p (e ∷ []) f)) (move_by_step (machine.step (Need []) k p) (λ m. AnExpression m (λ e. f (single_row e))) (λ e. None)) ≡ Some n → is_within_depth n ≡ true → WithinDepth Within n
  row_within Braces f n fit e = within_as (expression (λ e. MoreParts p (e ∷ []) f)) n e (λ t. (one_within, λ u. fit))
  row_within _ f n fit e = single_within (machine.step (Need []) k p) f n refl fit e

  list_within : (d : TokenClass) (more closed n : Continuation) → WithinDepth Within more → WithinDepth Within closed → move_in_list d more closed ≡ Some n → is_within_depth n ≡ true → WithinDepth Within n
  list_within (Separates separator.Comma) more closed n a b e = within_as more n e (λ t. a)
  list_within (Separates separator.CloseBrace) more closed n a b e = within_as closed n e (λ t. b)
  list_within _ more closed n a b e = absurd cc

  pattern_within : (d : TokenClass) (f : Pattern → Continuation) (n : Continuation) → WithinDepth Within (APattern f)
      → move_by_brace d (ALabel (λ m. MoreNames p (m ∷ []) f)) (move_by_name d (λ text. f (single_pattern (record { at = p; text = text })))) ≡ Some n → is_within_depth n ≡ true → WithinDepth Within n
  pattern_within Braces f n fit e = within_as (ALabel (λ m. MoreNames p (m ∷ []) f)) n e (λ t m. fit)
  pattern_within (Names text) f n fit e = within_as (f (single_pattern (record { at = p; text = text }))) n e (λ t. fit (single_pattern (record { at = p; text = text })))
  pattern_within _ f n fit e = absurd cc

  stream_within : (d : TokenClass) (around : ℕ) (f : Stream → Continuation) (n : Continuation) → around + 1 ≤ 16 → ((s : Stream) → WithinDepth Within (f s))
      → move_by_source d (λ form. source_form form around (λ source. MoreStages around p source [] f)) ≡ Some n → is_within_depth n ≡ true → WithinDepth Within n
  stream_within (BeginsSource form) around f n le fit e =
      within_as (source_form form around (λ source. MoreStages around p source [] f)) n e (source_within form around (λ source. MoreStages around p source [] f) (λ source. (le, fit)))
  stream_within _ around f n le fit e = absurd cc

  inner_within : (around : ℕ) (c : Continuation) (n : Continuation) → (step c k p ≡ Some n → is_within_depth n ≡ true → WithinDepth Within n) → if_inner around (step c k p) ≡ Some n → is_within_depth n ≡ true → WithinDepth Within n
  inner_within zero c n next e = absurd cc
  inner_within (suc around) c n next e = next e

  outermost_within : (around : ℕ) (c : Continuation) (n : Continuation) → (step c k p ≡ Some n → is_within_depth n ≡ true → WithinDepth Within n) → if_outermost around (step c k p) ≡ Some n → is_within_depth n ≡ true → WithinDepth Within n
  outermost_within zero c n next e = next e
  outermost_within (suc around) c n next e = absurd cc

  stages_within : (d : TokenClass) (around at : ℕ) (source : Source) (ss : List Stage) (f : Stream → Continuation) (n : Continuation) → WithinDepth Within (MoreStages around at source ss f)
      → (step (f (From at source (stages_of_list ss))) k p ≡ Some n → is_within_depth n ≡ true → WithinDepth Within n)
      → move_by_bar d (AStage around at source ss f) (if_inner around (step (f (From at source (stages_of_list ss))) k p)) ≡ Some n → is_within_depth n ≡ true → WithinDepth Within n
  stages_within Bars around at source ss f n fit next e = within_as (AStage around at source ss f) n e (λ t. fit)
  stages_within _ around at source ss f n fit next e = inner_within around (f (From at source (stages_of_list ss))) n next e

  stage_step_within : (d : TokenClass) (around at : ℕ) (source : Source) (ss : List Stage) (f : Stream → Continuation) (n : Continuation) → WithinDepth Within (AStage around at source ss f)
      → (step (f (From at source (stages_of_list ss))) k p ≡ Some n → is_within_depth n ≡ true → WithinDepth Within n)
      → move_by_stage d (λ form. stage_form form p around (λ s. MoreStages around at source (ss ++ s ∷ []) f)) (if_outermost around (step (f (From at source (stages_of_list ss))) k p)) ≡ Some n → is_within_depth n ≡ true → WithinDepth Within n
  stage_step_within (BeginsStage form) around at source ss f n fit next e =
      within_as (stage_form form p around (λ s. MoreStages around at source (ss ++ s ∷ []) f)) n e (stage_within form p around (λ s. MoreStages around at source (ss ++ s ∷ []) f) (λ s. fit))
  stage_step_within _ around at source ss f n fit next e = outermost_within around (f (From at source (stages_of_list ss))) n next e

  terminal_step_within : (d : TokenClass) (f : ℕ → Terminal → Continuation) (n : Continuation) → WithinDepth Within (ATerminal f) → move_by_terminal d (λ form. terminal_form form (f p)) ≡ Some n → is_within_depth n ≡ true → WithinDepth Within n
  terminal_step_within (BeginsTerminal form) f n fit e = within_as (terminal_form form (f p)) n e (λ t. terminal_within form (f p) (fit p))
  terminal_step_within _ f n fit e = absurd cc

  declarations_within : (d : TokenClass) (ds : List Declaration) (n : Continuation)
      → move_by_input d (declaration_form p (λ e. MoreDeclarations (ds ++ e ∷ []))) (move_by_source d (λ form. source_form form 0 (λ source. MoreStages 0 p source [] (ending ds)))) ≡ Some n → is_within_depth n ≡ true → WithinDepth Within n
  declarations_within Declares ds n e = within_as (declaration_form p (λ d. MoreDeclarations (ds ++ d ∷ []))) n e (λ t m kind. tt)
  declarations_within (BeginsSource form) ds n e = stream_within (BeginsSource form) 0 (ending ds) n (omega arith) (λ s at t. tt) e
  declarations_within _ ds n e = absurd cc

  pub within_depth_step : (c n : Continuation) → WithinDepth Within c → step c k p ≡ Some n → is_within_depth n ≡ true → WithinDepth Within n
  within_depth_step (End t) n fit e = absurd cc
  within_depth_step (ASeparator w c) n fit e = separator_within w c n fit e
  within_depth_step (ALabel f) n fit e = name_within (class_of k) (λ text. f (record { at = p; text = text })) n (λ text. fit (record { at = p; text = text })) e
  within_depth_step (AKind f) n fit e = kind_within (class_of k) f n fit e
  within_depth_step (AnExpression s f) n fit e = expression_within s (machine.step s k p) f n refl fit (λ u g. within_depth_step (f u) n (fit.1 u) g) e
  within_depth_step (ARow f) n fit e = row_within (class_of k) f n fit e
  within_depth_step (MoreParts at es f) n fit e =
      list_within (class_of k) (expression (λ u. MoreParts at (es ++ u ∷ []) f)) (f (braced_row at es)) n ((one_within, λ u. fit)) (fit (braced_row at es)) e
  within_depth_step (APattern f) n fit e = pattern_within (class_of k) f n fit e
  within_depth_step (MoreNames at ns f) n fit e = list_within (class_of k) (ALabel (λ m. MoreNames at (ns ++ m ∷ []) f)) (f (braced_pattern at ns)) n (λ m. fit) (fit (braced_pattern at ns)) e
  within_depth_step (Nested m c) n fit e = within_depth_step c n fit.1 e
  within_depth_step (AStream around f) n fit e = stream_within (class_of k) around f n fit.0 fit.1 e
  within_depth_step (MoreStages around at source ss f) n fit e = stages_within (class_of k) around at source ss f n fit (λ g. within_depth_step (f (From at source (stages_of_list ss))) n (fit.1 (From at source (stages_of_list ss))) g) e
  within_depth_step (AStage around at source ss f) n fit e = stage_step_within (class_of k) around at source ss f n fit (λ g. within_depth_step (f (From at source (stages_of_list ss))) n (fit.1 (From at source (stages_of_list ss))) g) e
  within_depth_step (ATerminal f) n fit e = terminal_step_within (class_of k) f n fit e
  within_depth_step (MoreDeclarations ds) n fit e = declarations_within (class_of k) ds n e
