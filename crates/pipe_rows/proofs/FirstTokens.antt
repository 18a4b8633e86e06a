-- The first token of a form, by its class: what the reader of texts has still to read behind it.
use Rattle.std.proofs.Common.{◌≡◌, ℕ, ◌≤◌, arith, List, [], ◌∷◌, ◌++◌, refl, ◌∙◌, ap, Bool, true, false, cond}
use Rattle.std.proofs.lemmas.Bool.Decides.{nat_tests}
use Rattle.std.specs.Prelude.{Some, None}
use Rattle.pipe_reader.specs.declared.separator.Separator.TheVariants.{CloseBrace, Comma}
use Rattle.pipe_reader.specs.Continuations.{Continuation, ASeparator, ALabel, AnExpression, ARow, MoreParts, APattern, MoreNames, AStream, MoreStages, AStage, MoreDeclarations, declaration_form, source_form, move_by_source, move_by_input, ending, stage_form, move_by_stage, if_outermost, TokenClass, Separates, Bars, Braces, Declares, BeginsStage, Move, class_of, is_separator, move_by_name, move_by_brace, move_in_list, move_by_bar, if_inner, move_by_step, expression, single_row, braced_row, single_pattern, braced_pattern, step, is_within_depth, read_from}
use Rattle.pipe_reader.specs.declared.forms.StageForm.{StageForm}
use Rattle.pipe_reader.specs.declared.forms.StageForm.TheVariants.{Map as MapForm, Filter as FilterForm, TakeWhile as TakeWhileForm, Take as TakeForm, Drop as DropForm, Scan as ScanForm, FlatMap as FlatMapForm}
use Rattle.exact_reader.specs.Exactness.{outcome_of_step, TooDeep}
use Rattle.pipe_reader.specs.Machine as machine
use Rattle.pipe_reader.specs.Machine.{Need, Leaf, Opens, Length, Nothing, Start, start_of, step_from_start, at_most, frame_precedence}
use Rattle.pipe_reader.specs.Nesting.{stage_depth}
use Rattle.pipe_tree.specs.Parsing.{offset_or_end}
use Rattle.pipe_rows.specs.ReaderState.{is_input, is_bar, is_brace, class_at, tokens_behind, single_name, braced_names, single_part, braced_parts}
use Rattle.pipe_rows.specs.FormReading.{Form, IsShallow}
use Rattle.pipe_tree.specs.Tokens.{Tok}
use Rattle.pipe_tree.specs.TreeCopies.{stages_of_list}
use Rattle.pipe_tree.specs.Trees.{Formula, Label, Row, Pattern, Source, Stage, From, Declaration, Text}

-- one form at x is read as the other at y
abbrev pub Same : {A : Type 0} → Form A → List Tok → Form A → List Tok → Type 0
Same {A} form x other y = (f : A → Continuation) → IsShallow f → read_from (form f) x ≡ read_from (other f) y

-- ---- one token

-- two that make the same of a token read the same from it on
pub same_step : (c d : Continuation) (t : Tok) (x : List Tok) → step c t.what t.at ≡ step d t.what t.at → read_from c (t ∷ x) ≡ read_from d (t ∷ x)
same_step c d t x e = ap (λ (m : Move). outcome_of_step m (λ n. cond (is_within_depth n) (read_from n x) (TooDeep (t ∷ x))) (t ∷ x)) e

-- the token leads to what isn't deep
pub goes_past : (c n : Continuation) (t : Tok) (x : List Tok) → step c t.what t.at ≡ Some n → is_within_depth n ≡ true → read_from c (t ∷ x) ≡ read_from n x
goes_past c n t x e is_shallow =
    ap (λ (m : Move). outcome_of_step m (λ n. cond (is_within_depth n) (read_from n x) (TooDeep (t ∷ x))) (t ∷ x)) e
    ∙ ap (λ (b : Bool). cond b (read_from n x) (TooDeep (t ∷ x))) is_shallow

-- ---- commas and closing braces

comma_on : (l : TokenClass) (more closed : Continuation) → is_separator Comma l ≡ true → move_in_list l more closed ≡ Some more
comma_on (Separates Comma) more closed h = refl
comma_on (Separates _) more closed h = cc
comma_on _ more closed h = cc

brace_on : (l : TokenClass) (more closed : Continuation) → is_separator Comma l ≡ false → move_in_list l more closed ≡ cond (is_separator CloseBrace l) (Some closed) None
brace_on (Separates Comma) more closed h = cc
brace_on (Separates _) more closed h = refl
brace_on _ more closed h = refl

pub more_names : (at : ℕ) (ns : List Label) (x : List Tok) → is_separator Comma (class_at x) ≡ true → Same (MoreNames at ns) x (λ f. ALabel (λ n. MoreNames at (ns ++ n ∷ []) f)) (tokens_behind x)
more_names at ns [] h = cc
more_names at ns (t ∷ x) h = λ f is_shallow. goes_past (MoreNames at ns f) _ t x (comma_on (class_of t.what) _ (f (braced_pattern at ns)) h) refl

pub names_end : (at : ℕ) (ns : List Label) (x : List Tok) → is_separator Comma (class_at x) ≡ false → Same (MoreNames at ns) x (λ f. ASeparator CloseBrace (f (braced_pattern at ns))) x
names_end at ns [] h = λ f is_shallow. refl
names_end at ns (t ∷ x) h = λ f is_shallow. same_step (MoreNames at ns f) (ASeparator CloseBrace (f (braced_pattern at ns))) t x (brace_on (class_of t.what) (ALabel (λ n. MoreNames at (ns ++ n ∷ []) f)) (f (braced_pattern at ns)) h)

pub more_parts : (at : ℕ) (es : List Formula) (x : List Tok) → is_separator Comma (class_at x) ≡ true → Same (MoreParts at es) x (λ f. expression (λ e. MoreParts at (es ++ e ∷ []) f)) (tokens_behind x)
more_parts at es [] h = cc
more_parts at es (t ∷ x) h = λ f is_shallow. goes_past (MoreParts at es f) _ t x (comma_on (class_of t.what) _ (f (braced_row at es)) h) refl

pub parts_end : (at : ℕ) (es : List Formula) (x : List Tok) → is_separator Comma (class_at x) ≡ false → Same (MoreParts at es) x (λ f. ASeparator CloseBrace (f (braced_row at es))) x
parts_end at es [] h = λ f is_shallow. refl
parts_end at es (t ∷ x) h = λ f is_shallow. same_step (MoreParts at es f) (ASeparator CloseBrace (f (braced_row at es))) t x (brace_on (class_of t.what) (expression (λ e. MoreParts at (es ++ e ∷ []) f)) (f (braced_row at es)) h)

-- ---- opening braces

braces_on : (l : TokenClass) (c : Continuation) (other : Move) → is_brace l ≡ true → move_by_brace l c other ≡ Some c
braces_on Braces c other h = refl
braces_on _ c other h = cc

no_brace_on : (l : TokenClass) (c : Continuation) (other : Move) → is_brace l ≡ false → move_by_brace l c other ≡ other
no_brace_on Braces c other h = cc
no_brace_on _ c other h = refl

-- what a token makes of a pattern without braces, and of a row without
abbrev pub name_move : (Pattern → Continuation) → Tok → Move
name_move f t = move_by_name (class_of t.what) (λ n. f (single_pattern (record { at = t.at; text = n })))

abbrev pub part_move : (Row → Continuation) → Tok → Move
part_move f t = move_by_step (machine.step (Need []) t.what t.at) (λ n. AnExpression n (λ u. f (single_row u))) (λ u. None)

pub bare_pattern : (x : List Tok) → is_brace (class_at x) ≡ false → Same APattern x single_name x
bare_pattern [] h = λ f is_shallow. refl
bare_pattern (t ∷ x) h = λ f is_shallow. same_step (APattern f) (single_name f) t x (no_brace_on (class_of t.what) (braced_names t.at f) (name_move f t) h)

pub braced_pattern_on : (end : ℕ) (x : List Tok) → is_brace (class_at x) ≡ true → Same APattern x (braced_names (offset_or_end end x)) (tokens_behind x)
braced_pattern_on end [] h = cc
braced_pattern_on end (t ∷ x) h = λ f is_shallow. goes_past (APattern f) _ t x (braces_on (class_of t.what) _ (name_move f t) h) refl

-- an expression that is begun goes on or is stuck
begun : (s : Start) (goes : machine.State → Continuation) (leaves other : Formula → Move) → move_by_step (step_from_start [] s) goes leaves ≡ move_by_step (step_from_start [] s) goes other
begun (Leaf u) goes leaves other = refl
begun (Opens f) goes leaves other =
    elim (at_most 0 (frame_precedence f)) as (λ (b : Bool). move_by_step (cond b (machine.Goes (Need (f ∷ []))) machine.Stuck) goes leaves ≡ move_by_step (cond b (machine.Goes (Need (f ∷ []))) machine.Stuck) goes other)
    [ true ↦ refl | false ↦ refl ]
begun (Length at) goes leaves other = refl
begun Nothing goes leaves other = refl

pub bare_row : (x : List Tok) → is_brace (class_at x) ≡ false → Same ARow x single_part x
bare_row [] h = λ f is_shallow. refl
bare_row (t ∷ x) h =
    λ f is_shallow. same_step (ARow f) (single_part f) t x
    (no_brace_on (class_of t.what) (braced_parts t.at f) (part_move f t) h
    ∙ begun (start_of t.what t.at) (λ n. AnExpression n (λ u. f (single_row u))) (λ u. None) (λ u. step (f (single_row u)) t.what t.at))

pub braced_row_on : (end : ℕ) (x : List Tok) → is_brace (class_at x) ≡ true → Same ARow x (braced_parts (offset_or_end end x)) (tokens_behind x)
braced_row_on end [] h = cc
braced_row_on end (t ∷ x) h = λ f is_shallow. goes_past (ARow f) _ t x (braces_on (class_of t.what) _ (part_move f t) h) refl

-- ---- bars

bars_on : (l : TokenClass) (c : Continuation) (other : Move) → is_bar l ≡ true → move_by_bar l c other ≡ Some c
bars_on Bars c other h = refl
bars_on _ c other h = cc

pub bar_taken : (around at : ℕ) (source : Source) (ss : List Stage) (x : List Tok) → is_bar (class_at x) ≡ true → Same (MoreStages around at source ss) x (AStage around at source ss) (tokens_behind x)
bar_taken around at source ss [] h = cc
bar_taken around at source ss (t ∷ x) h =
    λ f is_shallow. goes_past (MoreStages around at source ss f) (AStage around at source ss f) t x
    (bars_on (class_of t.what) (AStage around at source ss f) (if_inner around (step (f (From at source (stages_of_list ss))) t.what t.at)) h) refl

-- ---- stages

stage_within_depth : (form : StageForm) (around at : ℕ) (k : Stage → Continuation) → stage_depth form around ≤ 16 → is_within_depth (stage_form form at around k) ≡ true
stage_within_depth MapForm around at k low = refl
stage_within_depth FilterForm around at k low = refl
stage_within_depth TakeWhileForm around at k low = refl
stage_within_depth TakeForm around at k low = refl
stage_within_depth DropForm around at k low = refl
stage_within_depth ScanForm around at k low = refl
stage_within_depth FlatMapForm around at k low = grind (arith, nat_tests)

stage_on : (l : TokenClass) (form : StageForm) (f : StageForm → Continuation) (other : Move) → l ≡ BeginsStage form → move_by_stage l f other ≡ Some (f form)
stage_on (BeginsStage form) form' f other h = ap (λ (s : StageForm). Some (f s)) (let e : form ≡ form' = cc in e)
stage_on _ form f other h = cc

pub stage_taken : (end around at : ℕ) (source : Source) (ss : List Stage) (form : StageForm) (x : List Tok) → class_at x ≡ BeginsStage form → stage_depth form around ≤ 16 → Same (AStage around at source ss) x (λ f. stage_form form (offset_or_end end x) around (λ s. MoreStages around at source (ss ++ s ∷ []) f)) (tokens_behind x)
stage_taken end around at source ss form [] h low = cc
stage_taken end around at source ss form (t ∷ x) h low =
    λ f is_shallow. goes_past (AStage around at source ss f) (stage_form form t.at around (λ s. MoreStages around at source (ss ++ s ∷ []) f)) t x
    (stage_on (class_of t.what) form (λ form. stage_form form t.at around (λ s. MoreStages around at source (ss ++ s ∷ []) f)) (if_outermost around (step (f (From at source (stages_of_list ss))) t.what t.at)) h)
    (stage_within_depth form around t.at (λ s. MoreStages around at source (ss ++ s ∷ []) f) low)

-- ---- declarations

input_on : (l : TokenClass) (c : Continuation) (other : Move) → is_input l ≡ true → move_by_input l c other ≡ Some c
input_on Declares c other h = refl
input_on _ c other h = cc

stream_on : (l : TokenClass) (c : Continuation) (other : Move) → is_input l ≡ false → move_by_input l c other ≡ other
stream_on Declares c other h = cc
stream_on _ c other h = refl

pub input_taken : (end : ℕ) (ds : List Declaration) (x : List Tok) → is_input (class_at x) ≡ true → Same {A = Text} (λ f. MoreDeclarations ds) x (λ f. declaration_form (offset_or_end end x) (λ d. MoreDeclarations (ds ++ d ∷ []))) (tokens_behind x)
input_taken end ds [] h = cc
input_taken end ds (t ∷ x) h =
    λ f is_shallow. goes_past (MoreDeclarations ds) (declaration_form t.at (λ d. MoreDeclarations (ds ++ d ∷ []))) t x
    (input_on (class_of t.what) _ (move_by_source (class_of t.what) (λ form. source_form form 0 (λ source. MoreStages 0 t.at source [] (ending ds)))) h) refl

pub stream_next : (ds : List Declaration) (x : List Tok) → is_input (class_at x) ≡ false → Same {A = Text} (λ f. MoreDeclarations ds) x (λ f. AStream 0 (ending ds)) x
stream_next ds [] h = λ f is_shallow. refl
stream_next ds (t ∷ x) h =
    λ f is_shallow. same_step (MoreDeclarations ds) (AStream 0 (ending ds)) t x
    (stream_on (class_of t.what) (declaration_form t.at (λ d. MoreDeclarations (ds ++ d ∷ []))) (move_by_source (class_of t.what) (λ form. source_form form 0 (λ source. MoreStages 0 t.at source [] (ending ds)))) h)
