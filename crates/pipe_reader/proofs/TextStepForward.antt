-- The step of the reader of texts, forward: where tokens complete a continuation, the reader goes on with the
-- first, and the others complete the continuation that it leads to.
use Rattle.std.proofs.Common.{◌≡◌, ℕ, zero, suc, ◌+◌, List, [], ◌∷◌, ◌++◌, inl, inr, ◌⊎◌, Option, Some, None, refl, sym, ap, subst, ◌∙◌, append-nil}
use Rattle.pipe_lexer.specs.declared.keyword.Keyword.TheVariants as key
use Rattle.pipe_lexer.specs.declared.operator.InputKind.{InputKind}
use Rattle.pipe_lexer.specs.declared.operator.InputKind.TheVariants as input
use Rattle.pipe_lexer.specs.declared.symbol.Symbol.TheVariants as symbol
use Rattle.pipe_tree.specs.Bounds.{depth_of, stages_depth, stages_nesting}
use Rattle.pipe_reader.specs.Continuations.{Continuation, End, ASeparator, ALabel, AKind, AnExpression, ARow, MoreParts, APattern, MoreNames, Nested, AStream, MoreStages, AStage, ATerminal, MoreDeclarations, expression, ending, source_form, stage_form, terminal_form, declaration_form, single_row, braced_row, single_pattern, braced_pattern, TokenClass, Separates, Bars, Braces, BeginsSource, BeginsStage, BeginsTerminal, class_of, move_by_step, move_by_brace, move_by_stage, move_by_bar, step}
use Rattle.pipe_reader.specs.declared.forms.SourceForm.{SourceForm}
use Rattle.pipe_reader.specs.declared.forms.StageForm.{StageForm}
use Rattle.pipe_reader.specs.declared.forms.TerminalForm.{TerminalForm}
use Rattle.pipe_tree.specs.Grammar.{IsStream, IsSource, AreStages, AreDeclared}
use Rattle.pipe_reader.specs.Machine as machine
use Rattle.pipe_reader.specs.Machine.{Need, Goes, Leaves, start_of}
use Rattle.pipe_tree.specs.Tokens.{What, Named, Key, Sym, Tok, tok}
use Rattle.pipe_tree.specs.TreeCopies.{stages_of_list}
use Rattle.pipe_tree.specs.Trees.{Formula, Label, Row, Pattern, Stream, From, Source, Stage, Stages, Nil, Cons, Terminal, Declaration, Text}
use Rattle.pipe_reader.proofs.ExpressionStepBack.{start_leaves}
use Rattle.pipe_reader.proofs.Completion.{separator_token, IsKind, AreListedStages, StreamWithinDepth, SourceWithinDepth, StagesWithinDepth, Closing, IsOutermost, Ended, Completed}
use Rattle.pipe_reader.proofs.Productions.{source_forward, stage_forward, terminal_forward, declaration_forward}
use Rattle.pipe_reader.proofs.ExpressionStepForward.{Went, Left, moves}
use Rattle.pipe_reader.proofs.TokenClasses.{source_keyword, stage_keyword, terminal_keyword, class_of-separator_token, class_of-source_keyword, class_of-stage_keyword, class_of-terminal_keyword, is_itself, IsOfClass, is_of_class}
use Rattle.exact_reader.proofs.Limited.{Limits, AtMost, at_most_left, at_most_right, nested_left, nested_right}
use Rattle.pipe_reader.proofs.Rows.{Led, AnyOffset, row_next, parts_next, pattern_next, names_next, append_one}
use Rattle.pipe_reader.proofs.Reachability.{Follows, IsReachable, separates}

-- the token is this one, and these tokens are behind it
pub record IsFirst (t : Tok) (x : List Tok) (what : What) (at : ℕ) (rest : List Tok) : Type 0 where
  pub what_is : t.what ≡ what
  pub at_is : at ≡ t.at
  pub rest_is : rest ≡ x

pub is_first : (t : Tok) (x : List Tok) (what : What) (at : ℕ) (rest : List Tok) → t ∷ x ≡ tok what at ∷ rest → IsFirst t x what at rest
is_first t x what at rest e =
    let i : t ≡ tok what at = cc in
    record { what_is = ap (λ (u : Tok). u.what) i; at_is = sym (ap (λ (u : Tok). u.at) i); rest_is = cc }

module _ (l : Limits) (tree : Text) where
  abbrev pub StepForward : Continuation → Tok → List Tok → Type 0
  StepForward c t x = (n : Continuation) × ((step c t.what t.at ≡ Some n) × Completed l n tree x)

  -- where the step is this one, and what it comes to is completed by what is behind the token
  goes_forward : (c n : Continuation) (t : Tok) (x rest : List Tok) → rest ≡ x → step c t.what t.at ≡ Some n → Completed l n tree rest → StepForward c t x
  goes_forward c n t x rest r e h = (n, (e, subst (λ (y : List Tok). Completed l n tree y) r h))

  label_step_forward : (f : Label → Continuation) (t : Tok) (x : List Tok) → Completed l (ALabel f) tree (t ∷ x)
      → (text : List ℕ) × ((t.what ≡ Named text) × Completed l (f (record { at = t.at; text = text })) tree x)
  label_step_forward f t x h =
      let n = h.value in
      let i = is_first t x (Named n.text) n.at h.phrase.rest h.phrase.is in
      let r : h.rest ≡ x = sym h.phrase.goes_on ∙ i.rest_is in
      (n.text, (i.what_is, subst (λ (y : List Tok). Completed l (f (record { at = t.at; text = n.text })) tree y) r (subst (λ (at : ℕ). Completed l (f (record { at = at; text = n.text })) tree h.rest) i.at_is h.after)))

  kind_step_forward : (f : InputKind → Continuation) (t : Tok) (x r : List Tok) (kind : InputKind) → IsKind kind (t ∷ x) r → Completed l (f kind) tree r → StepForward (AKind f) t x
  kind_step_forward f t x r input.Array p h = let i = is_first t x (Key key.Array) p.at p.rest p.is in goes_forward (AKind f) (f input.Array) t x r (sym p.goes_on ∙ i.rest_is) (rw i.what_is refl) h
  kind_step_forward f t x r input.Int p h = let i = is_first t x (Key key.Int) p.at p.rest p.is in goes_forward (AKind f) (f input.Int) t x r (sym p.goes_on ∙ i.rest_is) (rw i.what_is refl) h

  -- ---- what isn't of another class

  no_brace : (d : TokenClass) (c : Continuation) (o : Option Continuation) → (d ≡ Braces → ⊥) → move_by_brace d c o ≡ o
  no_brace Braces c o never = absurd (never refl)
  no_brace _ c o never = refl

  brace_starts_nothing : (what : What) (at : ℕ) (n : machine.State) → machine.step (Need []) what at ≡ Goes n → class_of what ≡ Braces → ⊥
  brace_starts_nothing what at n e d = never what (is_of_class what) d e
    where
      never : (what : What) → IsOfClass (class_of what) what → class_of what ≡ Braces → machine.step (Need []) what at ≡ Goes n → ⊥
      never what i d e =
          let k : what ≡ Sym symbol.OpenBrace = subst (λ (q : TokenClass). IsOfClass q what) d i in
          let f : machine.step (Need []) (Sym symbol.OpenBrace) at ≡ Goes n = subst (λ (w : What). machine.step (Need []) w at ≡ Goes n) k e in
          cc

  row_step : (f : Row → Continuation) (what : What) (at : ℕ) (n : machine.State) → machine.step (Need []) what at ≡ Goes n → step (ARow f) what at ≡ Some (AnExpression n (λ e. f (single_row e)))
  row_step f what at n e =
      let m : move_by_step (machine.step (Need []) what at) (λ n. AnExpression n (λ e. f (single_row e))) (λ e. None) ≡ Some (AnExpression n (λ e. f (single_row e))) = rw e refl in
      no_brace (class_of what) (expression (λ e. MoreParts at (e ∷ []) f)) _ (brace_starts_nothing what at n e) ∙ m

  row_step_forward : (f : Row → Continuation) (t : Tok) (x : List Tok) → IsReachable (ARow f) → Completed l (ARow f) tree (t ∷ x) → StepForward (ARow f) t x
  row_step_forward f t x st h =
      elim (row_next l f tree (t ∷ x) h) [
        | inl o ↦
            let i = is_first t x (Sym symbol.OpenBrace) o.at o.rest o.is in
            goes_forward (ARow f) (expression (λ e. MoreParts t.at (e ∷ []) f)) t x o.rest i.rest_is (rw i.what_is refl)
            (subst (λ (at : ℕ). Completed l (expression (λ e. MoreParts at (e ∷ []) f)) tree o.rest) i.at_is o.goes_on)
        | inr s ↦
            elim (moves (Need []) (λ e y. AtMost l 200 (depth_of e) × Completed l (f (single_row e)) tree y) (t ∷ x)
            (λ e y operator k i. separates (f (single_row e)) l tree y operator (st (single_row e)).0 (st (single_row e)).1 k.1 i) s) [
              | Went n first rest i xi g ↦
                  let r : rest ≡ x = cc in
                  goes_forward (ARow f) (AnExpression n (λ e. f (single_row e))) t x rest r (row_step f t.what t.at n i) g
              | Left u i g ↦ absurd (start_leaves [] (start_of t.what t.at) u i)
            ]
      ]

  -- a comma and more, or the end
  list_step_forward : (c more closed : Continuation) (t : Tok) (x : List Tok) → (t.what ≡ Sym symbol.Comma → step c t.what t.at ≡ Some more) → (t.what ≡ Sym symbol.CloseBrace → step c t.what t.at ≡ Some closed)
      → Led (Sym symbol.Comma) (AnyOffset (Completed l more tree)) (t ∷ x) ⊎ Led (Sym symbol.CloseBrace) (AnyOffset (Completed l closed tree)) (t ∷ x) → StepForward c t x
  list_step_forward c more closed t x by_comma by_brace (inl o) =
      let i = is_first t x (Sym symbol.Comma) o.at o.rest o.is in goes_forward c more t x o.rest i.rest_is (by_comma i.what_is) o.goes_on
  list_step_forward c more closed t x by_comma by_brace (inr o) =
      let i = is_first t x (Sym symbol.CloseBrace) o.at o.rest o.is in goes_forward c closed t x o.rest i.rest_is (by_brace i.what_is) o.goes_on

  parts_step_forward : (at : ℕ) (es : List Formula) (f : Row → Continuation) (t : Tok) (x : List Tok) → Completed l (MoreParts at es f) tree (t ∷ x) → StepForward (MoreParts at es f) t x
  parts_step_forward at es f t x h =
      list_step_forward (MoreParts at es f) (expression (λ e. MoreParts at (es ++ e ∷ []) f)) (f (braced_row at es)) t x (λ e. rw e refl) (λ e. rw e refl) (parts_next l at es f tree (t ∷ x) h)

  pattern_step : (f : Pattern → Continuation) (what : What) (at : ℕ) (text : List ℕ) → what ≡ Named text → step (APattern f) what at ≡ Some (f (single_pattern (record { at = at; text = text })))
  pattern_step f what at text e = rw e refl

  pattern_step_forward : (f : Pattern → Continuation) (t : Tok) (x : List Tok) → Completed l (APattern f) tree (t ∷ x) → StepForward (APattern f) t x
  pattern_step_forward f t x h =
      elim (pattern_next l f tree (t ∷ x) h) [
        | inl o ↦
            let i = is_first t x (Sym symbol.OpenBrace) o.at o.rest o.is in
            goes_forward (APattern f) (ALabel (λ n. MoreNames t.at (n ∷ []) f)) t x o.rest i.rest_is (rw i.what_is refl)
            (subst (λ (at : ℕ). Completed l (ALabel (λ n. MoreNames at (n ∷ []) f)) tree o.rest) i.at_is o.goes_on)
        | inr s ↦
            let n = label_step_forward (λ n. f (single_pattern n)) t x s in
            (f (single_pattern (record { at = t.at; text = n.0 })), (pattern_step f t.what t.at n.0 n.1.0, n.1.1))
      ]

  names_step_forward : (at : ℕ) (ns : List Label) (f : Pattern → Continuation) (t : Tok) (x : List Tok) → Completed l (MoreNames at ns f) tree (t ∷ x) → StepForward (MoreNames at ns f) t x
  names_step_forward at ns f t x h =
      list_step_forward (MoreNames at ns f) (ALabel (λ n. MoreNames at (ns ++ n ∷ []) f)) (f (braced_pattern at ns)) t x (λ e. rw e refl) (λ e. rw e refl) (names_next l at ns f tree (t ∷ x) h)

  -- ---- streams

  -- the stages of a stream as a list
  abbrev stages_list : Stages → List Stage
  stages_list Nil = []
  stages_list (Cons s ss) = s ∷ stages_list ss

  stages_of_list-stages_list : (ss : Stages) → stages_of_list (stages_list ss) ≡ ss
  stages_of_list-stages_list Nil = refl
  stages_of_list-stages_list (Cons s ss) = ap (Cons s) (stages_of_list-stages_list ss)

  nothing_more : (ss : List Stage) → [] ++ ss ≡ ss
  nothing_more ss = refl

  source_step_forward : (c : Continuation) (around : ℕ) (f : Source → ℕ → Continuation) (so : Source) (at : ℕ) (t : Tok) (x r : List Tok) → ((form : SourceForm) → t.what ≡ source_keyword form → step c t.what t.at ≡ Some (source_form form around (λ s. f s t.at)))
      → SourceWithinDepth l around so → Completed l (f so at) tree r → IsSource so at (t ∷ x) r → StepForward c t x
  source_step_forward c around f so at t x r steps fit k p =
      let b = source_forward l tree around (λ s. f s at) so at (t ∷ x) r fit k p in
      let i = is_first t x (source_keyword b.form) at b.rest b.is in
      goes_forward c (source_form b.form around (λ s. f s t.at)) t x b.rest i.rest_is (steps b.form i.what_is)
      (subst (λ (q : ℕ). Completed l (source_form b.form around (λ s. f s q)) tree b.rest) i.at_is b.goes_on)

  stream_step_forward : (c : Continuation) (around : ℕ) (f : Stream → Continuation) (t : Tok) (x : List Tok)
      → ((form : SourceForm) → t.what ≡ source_keyword form → step c t.what t.at ≡ Some (source_form form around (λ source. MoreStages around t.at source [] f)))
      → Completed l (AStream around f) tree (t ∷ x) → StepForward c t x
  stream_step_forward c around f t x steps h = by_value h.value h.phrase h.fit h.after
    where
      by_value : (s : Stream) → IsStream s (t ∷ x) h.rest → StreamWithinDepth l around s → Closing around (Completed l (f s) tree) h.rest → StepForward c t x
      by_value (From at so stages) p fit k =
          let e : stages ≡ stages_of_list ([] ++ stages_list stages) = sym (stages_of_list-stages_list stages) in
          source_step_forward c around (λ source at. MoreStages around at source [] f) so at t x p.rest steps
          (at_most_left l 200 _ _ fit.0, nested_left l 16 around _ _ fit.1)
          (record {
            value = stages_list stages;
            rest = h.rest;
            phrase = subst (λ (ss : Stages). AreStages ss p.rest h.rest) e p.goes_on;
            fit = subst (λ (ss : Stages). AtMost l 200 (stages_depth ss) × AtMost l 16 (around + stages_nesting ss)) e (at_most_right l 200 _ _ fit.0, nested_right l 16 around _ _ fit.1);
            after = subst (λ (ss : Stages). Closing around (Completed l (f (From at so ss)) tree) h.rest) e k;
          }) p.phrase_is

  -- ---- the class of what follows a stream

  separator_is_no_bar : (c : Continuation) (around : ℕ) (t : Tok) (x : List Tok) → Follows (suc around) c → Completed l c tree (t ∷ x) → class_of t.what ≡ Bars → ⊥
  separator_is_no_bar (ASeparator w c) around t x fo h e =
      let i = is_first t x (separator_token w) h.at h.rest h.is in
      let d : class_of t.what ≡ Separates w = ap class_of i.what_is ∙ class_of-separator_token w in
      cc
  separator_is_no_bar _ around t x fo h e = absurd fo

  no_bar : (d : TokenClass) (c : Continuation) (o : Option Continuation) → (d ≡ Bars → ⊥) → move_by_bar d c o ≡ o
  no_bar Bars c o never = absurd (never refl)
  no_bar _ c o never = refl

  abbrev IsStageClass : TokenClass → Type 0
  IsStageClass (BeginsStage form) = Unit {0}
  IsStageClass _ = ⊥

  no_stage : (d : TokenClass) (f : _ → Continuation) (o : Option Continuation) → (IsStageClass d → ⊥) → move_by_stage d f o ≡ o
  no_stage (BeginsStage form) f o never = absurd (never tt)
  no_stage _ f o never = refl

  terminal_is_no_stage : (c : Continuation) (t : Tok) (x : List Tok) → Follows zero c → Completed l c tree (t ∷ x) → IsStageClass (class_of t.what) → ⊥
  terminal_is_no_stage (ATerminal f) t x fo h e =
      let b = terminal_forward l tree (f h.value.0) h.value.1 h.value.0 (t ∷ x) h.rest h.fit h.after h.phrase in
      let i = is_first t x (terminal_keyword b.form) h.value.0 b.rest b.is in
      let d : class_of t.what ≡ BeginsTerminal b.form = ap class_of i.what_is ∙ class_of-terminal_keyword b.form in
      subst IsStageClass d e
  terminal_is_no_stage _ t x fo h e = absurd fo

  -- what goes on where a stream is over
  abbrev NextForward : (Stream → Continuation) → Tok → List Tok → Type 0
  NextForward f t x = (s : Stream) → Completed l (f s) tree (t ∷ x) → StepForward (f s) t x

  closed_step_forward : (around at : ℕ) (source : Source) (ss : List Stage) (f : Stream → Continuation) (t : Tok) (x : List Tok) → Follows around (f (From at source (stages_of_list ss))) → NextForward f t x
      → Closing around (Completed l (f (From at source (stages_of_list ss))) tree) (t ∷ x) → StepForward (MoreStages around at source ss f) t x
  closed_step_forward zero at source ss f t x fo next k =
      let i = is_first t x (Sym symbol.Bar) k.at k.rest k.is in
      goes_forward (MoreStages zero at source ss f) (AStage zero at source ss f) t x k.rest i.rest_is (rw i.what_is refl) (inr (tt, k.goes_on))
  closed_step_forward (suc around) at source ss f t x fo next k =
      let n = next (From at source (stages_of_list ss)) k in
      (n.0, (no_bar (class_of t.what) (AStage (suc around) at source ss f) _ (separator_is_no_bar (f (From at source (stages_of_list ss))) around t x fo k) ∙ n.1.0, n.1.1))

  more_stages_step_forward : (around at : ℕ) (source : Source) (ss more : List Stage) (f : Stream → Continuation) (t : Tok) (x r : List Tok) → ((s : Stream) → Follows around (f s)) → NextForward f t x → AreListedStages more (t ∷ x) r
      → StagesWithinDepth l around more → Closing around (Completed l (f (From at source (stages_of_list (ss ++ more)))) tree) r → StepForward (MoreStages around at source ss f) t x
  more_stages_step_forward around at source ss [] f t x r fo next p fit k =
      closed_step_forward around at source ss f t x (fo (From at source (stages_of_list ss))) next
      (subst (λ (y : List Tok). Closing around (Completed l (f (From at source (stages_of_list ss))) tree) y) (sym p) (subst (λ (zs : List Stage). Closing around (Completed l (f (From at source (stages_of_list zs))) tree) r) (append-nil ss) k))
  more_stages_step_forward around at source ss (s ∷ more) f t x r fo next p fit k =
      let i = is_first t x (Sym symbol.Bar) p.at p.rest p.is in
      let q = p.goes_on in
      goes_forward (MoreStages around at source ss f) (AStage around at source ss f) t x p.rest i.rest_is (rw i.what_is refl)
      (inl
      (record {
        value = s;
        rest = q.rest;
        phrase = q.phrase_is;
        fit = (at_most_left l 200 _ _ fit.0, nested_left l 16 around _ _ fit.1);
        after = record {
          value = more;
          rest = r;
          phrase = q.goes_on;
          fit = (at_most_right l 200 _ _ fit.0, nested_right l 16 around _ _ fit.1);
          after = subst (λ (zs : List Stage). Closing around (Completed l (f (From at source (stages_of_list zs))) tree) r) (sym (append_one ss s more)) k;
        };
      }))

  ended_stage_step_forward : (around at : ℕ) (source : Source) (ss : List Stage) (f : Stream → Continuation) (t : Tok) (x : List Tok) → IsOutermost around → Follows around (f (From at source (stages_of_list ss))) → NextForward f t x
      → Completed l (f (From at source (stages_of_list ss))) tree (t ∷ x) → StepForward (AStage around at source ss f) t x
  ended_stage_step_forward zero at source ss f t x o fo next k =
      let n = next (From at source (stages_of_list ss)) k in
      (n.0, (no_stage (class_of t.what) _ _ (terminal_is_no_stage (f (From at source (stages_of_list ss))) t x fo k) ∙ n.1.0, n.1.1))
  ended_stage_step_forward (suc around) at source ss f t x o fo next k = absurd o

  stage_step : (around at : ℕ) (source : Source) (ss : List Stage) (f : Stream → Continuation) (form : StageForm) (what : What) (p : ℕ) → class_of what ≡ BeginsStage form
      → step (AStage around at source ss f) what p ≡ Some (stage_form form p around (λ s. MoreStages around at source (ss ++ s ∷ []) f))
  stage_step around at source ss f form what p d = rw d refl

  stage_step_forward : (around at : ℕ) (source : Source) (ss : List Stage) (f : Stream → Continuation) (t : Tok) (x : List Tok) → ((s : Stream) → Follows around (f s)) → NextForward f t x
      → Completed l (AStage around at source ss f) tree (t ∷ x) → StepForward (AStage around at source ss f) t x
  stage_step_forward around at source ss f t x fo next (inr h) = ended_stage_step_forward around at source ss f t x h.0 (fo (From at source (stages_of_list ss))) next h.1
  stage_step_forward around at source ss f t x fo next (inl h) =
      let b = stage_forward l tree around (λ s. MoreStages around at source (ss ++ s ∷ []) f) h.value (t ∷ x) h.rest h.fit h.after h.phrase in
      let i = is_first t x (stage_keyword b.1.form) b.0 b.1.rest b.1.is in
      let d : class_of t.what ≡ BeginsStage b.1.form = ap class_of i.what_is ∙ class_of-stage_keyword b.1.form in
      goes_forward (AStage around at source ss f) (stage_form b.1.form t.at around (λ s. MoreStages around at source (ss ++ s ∷ []) f)) t x b.1.rest i.rest_is (stage_step around at source ss f b.1.form t.what t.at d)
      (subst (λ (q : ℕ). Completed l (stage_form b.1.form q around (λ s. MoreStages around at source (ss ++ s ∷ []) f)) tree b.1.rest) i.at_is b.1.goes_on)

  -- ---- the terminal and the declarations

  terminal_step : (f : ℕ → Terminal → Continuation) (form : TerminalForm) (what : What) (p : ℕ) → class_of what ≡ BeginsTerminal form → step (ATerminal f) what p ≡ Some (terminal_form form (f p))
  terminal_step f form what p d = rw d refl

  terminal_step_forward : (f : ℕ → Terminal → Continuation) (t : Tok) (x : List Tok) → Completed l (ATerminal f) tree (t ∷ x) → StepForward (ATerminal f) t x
  terminal_step_forward f t x h =
      let b = terminal_forward l tree (f h.value.0) h.value.1 h.value.0 (t ∷ x) h.rest h.fit h.after h.phrase in
      let i = is_first t x (terminal_keyword b.form) h.value.0 b.rest b.is in
      let d : class_of t.what ≡ BeginsTerminal b.form = ap class_of i.what_is ∙ class_of-terminal_keyword b.form in
      goes_forward (ATerminal f) (terminal_form b.form (f t.at)) t x b.rest i.rest_is (terminal_step f b.form t.what t.at d)
      (subst (λ (q : ℕ). Completed l (terminal_form b.form (f q)) tree b.rest) i.at_is b.goes_on)

  stream_begins : (ds : List Declaration) (form : SourceForm) (what : What) (at : ℕ) → what ≡ source_keyword form
      → step (MoreDeclarations ds) what at ≡ Some (source_form form 0 (λ source. MoreStages 0 at source [] (ending ds)))
  stream_begins ds form what at e = let d : class_of what ≡ BeginsSource form = ap class_of e ∙ class_of-source_keyword form in rw d refl

  declarations_step_forward : (ds more : List Declaration) (t : Tok) (x r : List Tok) → AreDeclared more (t ∷ x) r → Ended l (ds ++ more) tree r → StepForward (MoreDeclarations ds) t x
  declarations_step_forward ds [] t x r p h =
      stream_step_forward (MoreDeclarations ds) 0 (ending ds) t x (λ form e. stream_begins ds form t.what t.at e)
      (subst (λ (y : List Tok). Ended l ds tree y) (sym p) (subst (λ (es : List Declaration). Ended l es tree r) (append-nil ds) h))
  declarations_step_forward ds (d ∷ more) t x r p h =
      let b = declaration_forward l tree (λ e. MoreDeclarations (ds ++ e ∷ [])) d (t ∷ x)
      (λ y q. record { value = more; rest = r; phrase = q; fit = tt; after = subst (λ (es : List Declaration). Ended l es tree r) (sym (append_one ds d more)) h }) p in
      let i = is_first t x (Key key.Input) d.at b.0 b.1.0 in
      goes_forward (MoreDeclarations ds) (declaration_form t.at (λ e. MoreDeclarations (ds ++ e ∷ []))) t x b.0 i.rest_is (rw i.what_is refl)
      (subst (λ (q : ℕ). Completed l (declaration_form q (λ e. MoreDeclarations (ds ++ e ∷ []))) tree b.0) i.at_is b.1.1)

  -- ---- all of them

  source_step : (around : ℕ) (f : Stream → Continuation) (form : SourceForm) (what : What) (at : ℕ) → what ≡ source_keyword form
      → step (AStream around f) what at ≡ Some (source_form form around (λ source. MoreStages around at source [] f))
  source_step around f form what at e = let d : class_of what ≡ BeginsSource form = ap class_of e ∙ class_of-source_keyword form in rw d refl

  separator_step : (w : _) (c : Continuation) (what : What) (at : ℕ) → what ≡ separator_token w → step (ASeparator w c) what at ≡ Some c
  separator_step w c what at e = let d : class_of what ≡ Separates w = ap class_of e ∙ class_of-separator_token w in rw (d, is_itself w) refl

  label_step : (f : Label → Continuation) (what : What) (at : ℕ) (text : List ℕ) → what ≡ Named text → step (ALabel f) what at ≡ Some (f (record { at = at; text = text }))
  label_step f what at text e = rw e refl

  left_step : (s : machine.State) (f : Formula → Continuation) (what : What) (at : ℕ) (e : Formula) (n : Continuation) → machine.step s what at ≡ Leaves e → step (f e) what at ≡ Some n → step (AnExpression s f) what at ≡ Some n
  left_step s f what at e n i g = rw i g

  pub step_forward : (c : Continuation) (t : Tok) (x : List Tok) → IsReachable c → Completed l c tree (t ∷ x) → StepForward c t x
  step_forward (End u) t x st h = let e = h.1 in absurd cc
  step_forward (ASeparator w c) t x st h =
      let i = is_first t x (separator_token w) h.at h.rest h.is in
      goes_forward (ASeparator w c) c t x h.rest i.rest_is (separator_step w c t.what t.at i.what_is) h.goes_on
  step_forward (ALabel f) t x st h =
      let n = label_step_forward f t x h in
      (f (record { at = t.at; text = n.0 }), (label_step f t.what t.at n.0 n.1.0, n.1.1))
  step_forward (AKind f) t x st h = kind_step_forward f t x h.rest h.value h.phrase h.after
  step_forward (AnExpression s f) t x st h =
      elim (moves s (λ e y. AtMost l 200 (depth_of e) × Completed l (f e) tree y) (t ∷ x) (λ e y operator k i. separates (f e) l tree y operator (st.1 e).0 (st.1 e).1 k.1 i) h) [
        | Went n first rest i xi g ↦
            let r : rest ≡ x = cc in
            goes_forward (AnExpression s f) (AnExpression n f) t x rest r (rw i refl) g
        | Left e i g ↦
            let n = step_forward (f e) t x (st.1 e).1 g.1 in
            (n.0, (left_step s f t.what t.at e n.0 i n.1.0, n.1.1))
      ]
  step_forward (ARow f) t x st h = row_step_forward f t x st h
  step_forward (MoreParts at es f) t x st h = parts_step_forward at es f t x h
  step_forward (APattern f) t x st h = pattern_step_forward f t x h
  step_forward (MoreNames at ns f) t x st h = names_step_forward at ns f t x h
  step_forward (Nested n c) t x st h = step_forward c t x st h.1
  step_forward (AStream around f) t x st h = stream_step_forward (AStream around f) around f t x (λ form e. source_step around f form t.what t.at e) h
  step_forward (MoreStages around at source ss f) t x st h =
      more_stages_step_forward around at source ss h.value f t x h.rest (λ s. (st s).0) (λ s k. step_forward (f s) t x (st s).1 k) h.phrase h.fit h.after
  step_forward (AStage around at source ss f) t x st h = stage_step_forward around at source ss f t x (λ s. (st s).0) (λ s k. step_forward (f s) t x (st s).1 k) h
  step_forward (ATerminal f) t x st h = terminal_step_forward f t x h
  step_forward (MoreDeclarations ds) t x st h = declarations_step_forward ds h.value t x h.rest h.phrase h.after
