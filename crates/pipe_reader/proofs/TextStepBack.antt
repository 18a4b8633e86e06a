-- The step of the reader of texts, backward: what completes the continuation that a token leads to completes,
-- with the token before it, the one that it was read in; and only reachable ones are reached.
use Rattle.std.proofs.lemmas.Bool.{cases_Bool}
use Rattle.std.proofs.Common.{◌≡◌, ℕ, zero, suc, ◌+◌, List, [], ◌∷◌, ◌++◌, inl, inr, ◌⊎◌, Some, None, cond, refl, sym, ap, subst, append-nil, arith}
use Rattle.pipe_lexer.specs.declared.keyword.Keyword.TheVariants as key
use Rattle.pipe_lexer.specs.declared.operator.InputKind.{InputKind}
use Rattle.pipe_lexer.specs.declared.operator.InputKind.TheVariants as input
use Rattle.pipe_lexer.specs.declared.symbol.Symbol.TheVariants as symbol
use Rattle.pipe_reader.specs.declared.separator.Separator.TheVariants as separator
use Rattle.pipe_tree.specs.Bounds.{depth_of, stages_depth, stages_nesting, source_nesting}
use Rattle.pipe_reader.specs.Continuations.{Continuation, End, ASeparator, ALabel, AKind, AnExpression, ARow, MoreParts, APattern, MoreNames, Nested, AStream, MoreStages, AStage, ATerminal, MoreDeclarations, expression, ending, source_form, stage_form, terminal_form, declaration_form, single_row, braced_row, single_pattern, braced_pattern, TokenClass, Names, Separates, Bars, Braces, Declares, IsInt, BeginsSource, BeginsStage, BeginsTerminal, class_of, is_separator, move_by_name, move_by_kind, move_by_step, move_by_brace, move_in_list, move_by_source, move_by_stage, move_by_terminal, move_by_input, move_by_bar, if_inner, if_outermost, step}
use Rattle.pipe_reader.specs.declared.forms.SourceForm.{SourceForm}
use Rattle.pipe_reader.specs.declared.forms.StageForm.{StageForm}
use Rattle.pipe_reader.specs.declared.forms.SourceForm.TheVariants.{Array as ArrayForm}
use Rattle.pipe_tree.specs.Grammar.{At, Fixed, Then, Ends, IsLabel, IsSource, IsStage, IsTerminal, AreDeclared, kind_key}
use Rattle.pipe_reader.specs.Machine as machine
use Rattle.pipe_reader.specs.Machine.{Need, Goes, Leaves, Stuck}
use Rattle.pipe_tree.specs.Tokens.{What, Named, Key, Sym, Tok, tok}
use Rattle.pipe_tree.specs.TreeCopies.{stages_of_list}
use Rattle.pipe_tree.specs.Trees.{Formula, Label, Row, Pattern, Stream, From, Source, Stage, Terminal, Declaration, Text}
use Rattle.pipe_reader.proofs.ExpressionStepBack as expressions
use Rattle.pipe_reader.proofs.Completion.{separator_token, Closing, IsOutermost, Ended, Completed}
use Rattle.pipe_reader.proofs.ExpressionCompletion.{leaves_depth}
use Rattle.pipe_reader.proofs.WithinDepth.{WithinDepth}
use Rattle.pipe_reader.proofs.Productions.{source_back, stage_back, terminal_back, declaration_back, stages_one}
use Rattle.pipe_reader.proofs.Phrases.{fixed_then}
use Rattle.pipe_reader.proofs.TokenClasses.{source_keyword, stage_keyword, IsOfClass, is_of_class, separator_is}
use Rattle.exact_reader.proofs.Limited.{Limits, AtMost, at_most_less, at_most_small, at_most_max, nested_max}
use Rattle.pipe_reader.proofs.Rows.{row_opened, row_single, parts_more, parts_closed, pattern_opened, pattern_single, names_more, names_closed, append_one}
use Rattle.pipe_reader.proofs.Reachability.{IsReachable, source_reachable, stage_reachable, terminal_reachable}

-- this token leads from c to n
pub record StepBack (l : Limits) (c : Continuation) (k : What) (p : ℕ) (n : Continuation) : Type 0 where
  pub reachable : IsReachable n
  pub completes : (tree : Text) (x : List Tok) → Completed l n tree x → Completed l c tree (tok k p ∷ x)

module _ (l : Limits) (k : What) (p : ℕ) where
  step_back_as : (c m n : Continuation) → Some m ≡ Some n → StepBack l c k p m → StepBack l c k p n
  step_back_as c m n e h = let i : m ≡ n = cc in subst (λ (q : Continuation). StepBack l c k p q) i h

  -- the token is this one
  here : {P : List Tok → Type 0} (what : What) (x : List Tok) → k ≡ what → P x → At what p P (tok k p ∷ x)
  here what x e h = record { rest = x; is = ap (λ (w : What). tok w p ∷ x) e; goes_on = h }

  here_fixed : {P : List Tok → Type 0} (what : What) (x : List Tok) → k ≡ what → P x → Fixed what P (tok k p ∷ x)
  here_fixed what x e h = record { at = p; rest = x; is = ap (λ (w : What). tok w p ∷ x) e; goes_on = h }

  separator_step_back : (w : _) (c n : Continuation) → IsReachable c → cond (is_separator w (class_of k)) (Some c) None ≡ Some n → StepBack l (ASeparator w c) k p n
  separator_step_back w c n st e =
      elim (cases_Bool (is_separator w (class_of k))) [
        | inl b ↦
            let e2 : Some c ≡ Some n = rw b at e in
            step_back_as (ASeparator w c) c n e2 (record { reachable = st; completes = λ tree x h. here_fixed (separator_token w) x (separator_is w k b) h })
        | inr b ↦ let e2 : None ≡ Some n = rw b at e in absurd cc
      ]

  abbrev NameBack : (List ℕ → Continuation) → Continuation → Type 0
  NameBack f n = (text : List ℕ) × ((k ≡ Named text) × (f text ≡ n))

  name_step_back : (d : TokenClass) (f : List ℕ → Continuation) (n : Continuation) → IsOfClass d k → move_by_name d f ≡ Some n → NameBack f n
  name_step_back (Names text) f n i e = (text, (i, cc))
  name_step_back _ f n i e = absurd cc

  label_step_back : (f : Label → Continuation) (n : Continuation) → ((m : Label) → IsReachable (f m)) → NameBack (λ text. f (record { at = p; text = text })) n → StepBack l (ALabel f) k p n
  label_step_back f n st b =
      subst (λ (q : Continuation). StepBack l (ALabel f) k p q) b.1.1
      (record {
        reachable = st (record { at = p; text = b.0 });
        completes = λ tree x h. record { value = record { at = p; text = b.0 }; rest = x; phrase = here (Named b.0) x b.1.0 refl; fit = tt; after = h };
      })

  kind_step_back : (d : TokenClass) (f : InputKind → Continuation) (n : Continuation) → ((kind : InputKind) → IsReachable (f kind)) → IsOfClass d k → move_by_kind d f ≡ Some n → StepBack l (AKind f) k p n
  kind_step_back (BeginsSource ArrayForm) f n st i e =
      step_back_as (AKind f) (f input.Array) n e
      (record { reachable = st input.Array; completes = λ tree x h. record { value = input.Array; rest = x; phrase = here_fixed (Key key.Array) x i refl; fit = tt; after = h } })
  kind_step_back IsInt f n st i e =
      step_back_as (AKind f) (f input.Int) n e
      (record { reachable = st input.Int; completes = λ tree x h. record { value = input.Int; rest = x; phrase = here_fixed (Key key.Int) x i refl; fit = tt; after = h } })
  kind_step_back _ f n st i e = absurd cc

  -- an expression that the step goes on with
  expression_goes_back : (s m : machine.State) (f : Formula → Continuation) → IsReachable (AnExpression s f) → machine.step s k p ≡ Goes m → StepBack l (AnExpression s f) k p (AnExpression m f)
  expression_goes_back s m f st e =
      let b = expressions.back s k p m st.0 e in
      record { reachable = (b.reachable, st.1); completes = λ tree x h. b.completes (λ u y. AtMost l 200 (depth_of u) × Completed l (f u) tree y) x h }

  expression_step_back : (s : machine.State) (g : machine.Step) (f : Formula → Continuation) (n : Continuation) → machine.step s k p ≡ g → IsReachable (AnExpression s f) → WithinDepth l (AnExpression s f)
      → ((e : Formula) → step (f e) k p ≡ Some n → StepBack l (f e) k p n) → move_by_step g (λ m. AnExpression m f) (λ e. step (f e) k p) ≡ Some n → StepBack l (AnExpression s f) k p n
  expression_step_back s (Goes m) f n i st fit next e = step_back_as (AnExpression s f) (AnExpression m f) n e (expression_goes_back s m f st i)
  expression_step_back s Stuck f n i st fit next e = absurd cc
  expression_step_back s (Leaves u) f n i st fit next e =
      let b = next u e in
      record {
        reachable = b.reachable;
        completes =
            λ tree x h. expressions.leaves_back s (λ v y. AtMost l 200 (depth_of v) × Completed l (f v) tree y) u (tok k p ∷ x) st.0 i
            (subst (λ (d : ℕ). AtMost l 200 d) (sym (leaves_depth s u (tok k p ∷ x) i)) fit.0, b.completes tree x h);
      }

  single_step_back : (g : machine.Step) (f : Row → Continuation) (n : Continuation) → machine.step (Need []) k p ≡ g → IsReachable (ARow f)
      → move_by_step g (λ m. AnExpression m (λ e. f (single_row e))) (λ e. None) ≡ Some n → StepBack l (ARow f) k p n
  single_step_back (Goes m) f n i st e =
      let b = expression_goes_back (Need []) m (λ e. f (single_row e)) (tt, λ e. st (single_row e)) i in
      step_back_as (ARow f) (AnExpression m (λ e. f (single_row e))) n e
      (record { reachable = b.reachable; completes = λ tree x h. row_single l f tree (tok k p ∷ x) (b.completes tree x h) })
  single_step_back (Leaves u) f n i st e = absurd cc
  single_step_back Stuck f n i st e = absurd cc

  abbrev BySingle : (Row → Continuation) → Continuation → Type 0
  BySingle f n = move_by_step (machine.step (Need []) k p) (λ m. AnExpression m (λ e. f (single_row e))) (λ e. None) ≡ Some n

  row_step_back : (d : TokenClass) (f : Row → Continuation) (n : Continuation) → IsReachable (ARow f) → IsOfClass d k
      → move_by_brace d (expression (λ e. MoreParts p (e ∷ []) f)) (move_by_step (machine.step (Need []) k p) (λ m. AnExpression m (λ e. f (single_row e))) (λ e. None)) ≡ Some n → StepBack l (ARow f) k p n
  row_step_back Braces f n st i e =
      step_back_as (ARow f) (expression (λ e. MoreParts p (e ∷ []) f)) n e
      (record {
        reachable = (tt, λ e. (tt, st));
        completes = λ tree x h. subst (λ (w : What). Completed l (ARow f) tree (tok w p ∷ x)) (sym i) (row_opened l f tree p x h);
      })
  row_step_back _ f n st i e = let g : BySingle f n = e in single_step_back (machine.step (Need []) k p) f n refl st g

  abbrev Listed : TokenClass → (more closed n : Continuation) → Type 0
  Listed d more closed n = move_in_list d more closed ≡ Some n

  -- a comma, or the closing brace
  list_back : (d : TokenClass) (more closed n : Continuation) → IsOfClass d k → Listed d more closed n → ((k ≡ Sym symbol.Comma) × (more ≡ n)) ⊎ ((k ≡ Sym symbol.CloseBrace) × (closed ≡ n))
  list_back (Separates separator.Comma) more closed n i e = inl (i, cc)
  list_back (Separates separator.CloseBrace) more closed n i e = inr (i, cc)
  list_back _ more closed n i e = absurd cc

  -- it leads to more, or to the end
  list_step_back : (c more closed n : Continuation) → IsReachable more → IsReachable closed
      → ((tree : Text) (x : List Tok) → Completed l more tree x → Completed l c tree (tok (Sym symbol.Comma) p ∷ x))
      → ((tree : Text) (x : List Tok) → Completed l closed tree x → Completed l c tree (tok (Sym symbol.CloseBrace) p ∷ x)) → Listed (class_of k) more closed n → StepBack l c k p n
  list_step_back c more closed n more_st closed_st by_comma by_brace e =
      elim (list_back (class_of k) more closed n (is_of_class k) e) [
        | inl b ↦
            subst (λ (q : Continuation). StepBack l c k p q) b.1
            (record { reachable = more_st; completes = λ tree x h. subst (λ (w : What). Completed l c tree (tok w p ∷ x)) (sym b.0) (by_comma tree x h) })
        | inr b ↦
            subst (λ (q : Continuation). StepBack l c k p q) b.1
            (record { reachable = closed_st; completes = λ tree x h. subst (λ (w : What). Completed l c tree (tok w p ∷ x)) (sym b.0) (by_brace tree x h) })
      ]

  parts_step_back : (at : ℕ) (es : List Formula) (f : Row → Continuation) (n : Continuation) → IsReachable (MoreParts at es f) → step (MoreParts at es f) k p ≡ Some n → StepBack l (MoreParts at es f) k p n
  parts_step_back at es f n st e =
      list_step_back (MoreParts at es f) (expression (λ e. MoreParts at (es ++ e ∷ []) f)) (f (braced_row at es)) n (tt, λ e. (tt, st)) (st (braced_row at es)).1
      (λ tree x h. parts_more l at es f tree p x h) (λ tree x h. parts_closed l at es f tree p x h) e

  pattern_step_back : (d : TokenClass) (f : Pattern → Continuation) (n : Continuation) → IsReachable (APattern f) → IsOfClass d k
      → move_by_brace d (ALabel (λ m. MoreNames p (m ∷ []) f)) (move_by_name d (λ text. f (single_pattern (record { at = p; text = text })))) ≡ Some n → StepBack l (APattern f) k p n
  pattern_step_back Braces f n st i e =
      step_back_as (APattern f) (ALabel (λ m. MoreNames p (m ∷ []) f)) n e
      (record {
        reachable = λ m. st;
        completes = λ tree x h. subst (λ (w : What). Completed l (APattern f) tree (tok w p ∷ x)) (sym i) (pattern_opened l f tree p x h);
      })
  pattern_step_back (Names text) f n st i e =
      let b = label_step_back (λ m. f (single_pattern m)) n (λ m. st (single_pattern m)) (text, (i, cc)) in
      record { reachable = b.reachable; completes = λ tree x h. pattern_single l f tree (tok k p ∷ x) (b.completes tree x h) }
  pattern_step_back _ f n st i e = absurd cc

  names_step_back : (at : ℕ) (ns : List Label) (f : Pattern → Continuation) (n : Continuation) → IsReachable (MoreNames at ns f) → step (MoreNames at ns f) k p ≡ Some n → StepBack l (MoreNames at ns f) k p n
  names_step_back at ns f n st e =
      list_step_back (MoreNames at ns f) (ALabel (λ m. MoreNames at (ns ++ m ∷ []) f)) (f (braced_pattern at ns)) n (λ m. st) (st (braced_pattern at ns))
      (λ tree x h. names_more l at ns f tree p x h) (λ tree x h. names_closed l at ns f tree p x h) e

  -- ---- streams

  -- the nesting of stages with others behind them
  nests_on : (around : ℕ) (ss : List Stage) → AtMost l 16 (around + stages_nesting (stages_of_list ss)) → AtMost l 16 (around + 1)
  nests_on around ss h = at_most_less l 16 (around + 1) (around + stages_nesting (stages_of_list ss)) (omega (arith, stages_one (stages_of_list ss))) h

  -- a stream whose source's keyword this is
  stream_is : (around : ℕ) (f : Stream → Continuation) (form : SourceForm) (tree : Text) (x : List Tok) → k ≡ source_keyword form
      → Completed l (source_form form around (λ source. MoreStages around p source [] f)) tree x → Completed l (AStream around f) tree (tok k p ∷ x)
  stream_is around f form tree x e h =
      let b = source_back l tree form around (λ source. MoreStages around p source [] f) p x h in
      let m = b.after in
      record {
        value = From p b.value (stages_of_list m.value);
        rest = m.rest;
        phrase = record { rest = b.rest; phrase_is = subst (λ (w : What). IsSource b.value p (tok w p ∷ x) b.rest) (sym e) b.phrase; goes_on = m.phrase };
        fit = (
          at_most_max l 200 _ (stages_depth (stages_of_list m.value)) b.fit.0 m.fit.0,
          nested_max l 16 around (source_nesting b.value) (stages_nesting (stages_of_list m.value)) (b.fit.1 (nests_on around m.value m.fit.1)) m.fit.1,
        );
        after = m.after;
      }

  abbrev SourceBack : ℕ → (Stream → Continuation) → Continuation → Type 0
  SourceBack around f n = (form : SourceForm) × ((k ≡ source_keyword form) × (source_form form around (λ source. MoreStages around p source [] f) ≡ n))

  source_began : (d : TokenClass) (around : ℕ) (f : Stream → Continuation) (n : Continuation) → IsOfClass d k
      → move_by_source d (λ form. source_form form around (λ source. MoreStages around p source [] f)) ≡ Some n → SourceBack around f n
  source_began (BeginsSource form) around f n i e = (form, (i, cc))
  source_began _ around f n i e = absurd cc

  stream_step_back : (around : ℕ) (f : Stream → Continuation) (n : Continuation) → IsReachable (AStream around f) → SourceBack around f n → StepBack l (AStream around f) k p n
  stream_step_back around f n st b =
      subst (λ (q : Continuation). StepBack l (AStream around f) k p q) b.1.1
      (record {
        reachable = source_reachable b.0 around (λ source. MoreStages around p source [] f) (λ source. (tt, st));
        completes = λ tree x h. stream_is around f b.0 tree x b.1.0 h;
      })

  -- no stage more
  no_more : (around at : ℕ) (source : Source) (ss : List Stage) (f : Stream → Continuation) (tree : Text) (x : List Tok) → AtMost l 16 (around + 1) → Closing around (Completed l (f (From at source (stages_of_list ss))) tree) x
      → Completed l (MoreStages around at source ss f) tree x
  no_more around at source ss f tree x fit h =
      record {
        value = [];
        rest = x;
        phrase = refl;
        fit = (at_most_small l 200 0 (omega arith), fit);
        after = subst (λ (zs : List Stage). Closing around (Completed l (f (From at source (stages_of_list zs))) tree) x) (sym (append-nil ss)) h;
      }

  ended_bar : (around at : ℕ) (source : Source) (ss : List Stage) (f : Stream → Continuation) (tree : Text) (x : List Tok) → AtMost l 16 (around + 1) → k ≡ Sym symbol.Bar → IsOutermost around
      → Completed l (f (From at source (stages_of_list ss))) tree x → Completed l (MoreStages around at source ss f) tree (tok k p ∷ x)
  ended_bar zero at source ss f tree x fit e o h = no_more zero at source ss f tree (tok k p ∷ x) fit (here_fixed (Sym symbol.Bar) x e h)
  ended_bar (suc around) at source ss f tree x fit e o h = absurd o

  bar_is : (around at : ℕ) (source : Source) (ss : List Stage) (f : Stream → Continuation) (tree : Text) (x : List Tok) → AtMost l 16 (around + 1) → k ≡ Sym symbol.Bar → Completed l (AStage around at source ss f) tree x
      → Completed l (MoreStages around at source ss f) tree (tok k p ∷ x)
  bar_is around at source ss f tree x fit e (inr h) = ended_bar around at source ss f tree x fit e h.0 h.1
  bar_is around at source ss f tree x fit e (inl h) =
      let m = h.after in
      record {
        value = h.value ∷ m.value;
        rest = m.rest;
        phrase = here_fixed (Sym symbol.Bar) x e (record { rest = h.rest; phrase_is = h.phrase; goes_on = m.phrase });
        fit = (at_most_max l 200 _ _ h.fit.0 m.fit.0, nested_max l 16 around _ _ h.fit.1 m.fit.1);
        after = subst (λ (zs : List Stage). Closing around (Completed l (f (From at source (stages_of_list zs))) tree) m.rest) (append_one ss h.value m.value) m.after;
      }

  abbrev NextBack : (Stream → Continuation) → Continuation → Type 0
  NextBack f n = (s : Stream) → step (f s) k p ≡ Some n → StepBack l (f s) k p n

  closed_step_back : (around at : ℕ) (source : Source) (ss : List Stage) (f : Stream → Continuation) (n : Continuation) → AtMost l 16 (around + 1) → NextBack f n
      → if_inner around (step (f (From at source (stages_of_list ss))) k p) ≡ Some n → StepBack l (MoreStages around at source ss f) k p n
  closed_step_back zero at source ss f n fit next e = absurd cc
  closed_step_back (suc around) at source ss f n fit next e =
      let b = next (From at source (stages_of_list ss)) e in
      record { reachable = b.reachable; completes = λ tree x h. no_more (suc around) at source ss f tree (tok k p ∷ x) fit (b.completes tree x h) }

  more_stages_step_back : (d : TokenClass) (around at : ℕ) (source : Source) (ss : List Stage) (f : Stream → Continuation) (n : Continuation) → IsReachable (MoreStages around at source ss f) → AtMost l 16 (around + 1) → NextBack f n → IsOfClass d k
      → move_by_bar d (AStage around at source ss f) (if_inner around (step (f (From at source (stages_of_list ss))) k p)) ≡ Some n → StepBack l (MoreStages around at source ss f) k p n
  more_stages_step_back Bars around at source ss f n st fit next i e =
      step_back_as (MoreStages around at source ss f) (AStage around at source ss f) n e (record { reachable = st; completes = λ tree x h. bar_is around at source ss f tree x fit i h })
  more_stages_step_back _ around at source ss f n st fit next i e = closed_step_back around at source ss f n fit next e

  stage_is : (around at : ℕ) (source : Source) (ss : List Stage) (f : Stream → Continuation) (form : StageForm) (tree : Text) (x : List Tok) → k ≡ stage_keyword form
      → Completed l (stage_form form p around (λ s. MoreStages around at source (ss ++ s ∷ []) f)) tree x → Completed l (AStage around at source ss f) tree (tok k p ∷ x)
  stage_is around at source ss f form tree x e h =
      let b = stage_back l tree form p around (λ s. MoreStages around at source (ss ++ s ∷ []) f) x h in
      inl
      (record {
        value = b.value;
        rest = b.rest;
        phrase = subst (λ (w : What). IsStage b.value (tok w p ∷ x) b.rest) (sym e) b.phrase;
        fit = (b.fit.0, b.fit.1 (nests_on around b.after.value b.after.fit.1));
        after = b.after;
      })

  ended_step_back : (around at : ℕ) (source : Source) (ss : List Stage) (f : Stream → Continuation) (n : Continuation) → NextBack f n
      → if_outermost around (step (f (From at source (stages_of_list ss))) k p) ≡ Some n → StepBack l (AStage around at source ss f) k p n
  ended_step_back (suc around) at source ss f n next e = absurd cc
  ended_step_back zero at source ss f n next e =
      let b = next (From at source (stages_of_list ss)) e in
      record { reachable = b.reachable; completes = λ tree x h. inr (tt, b.completes tree x h) }

  stage_step_back : (d : TokenClass) (around at : ℕ) (source : Source) (ss : List Stage) (f : Stream → Continuation) (n : Continuation) → IsReachable (AStage around at source ss f) → NextBack f n → IsOfClass d k
      → move_by_stage d (λ form. stage_form form p around (λ s. MoreStages around at source (ss ++ s ∷ []) f)) (if_outermost around (step (f (From at source (stages_of_list ss))) k p)) ≡ Some n
      → StepBack l (AStage around at source ss f) k p n
  stage_step_back (BeginsStage form) around at source ss f n st next i e =
      step_back_as (AStage around at source ss f) (stage_form form p around (λ s. MoreStages around at source (ss ++ s ∷ []) f)) n e
      (record {
        reachable = stage_reachable form p around (λ s. MoreStages around at source (ss ++ s ∷ []) f) (λ s. (tt, st));
        completes = λ tree x h. stage_is around at source ss f form tree x i h;
      })
  stage_step_back _ around at source ss f n st next i e = ended_step_back around at source ss f n next e

  -- ---- the terminal and the declarations

  terminal_step_back : (d : TokenClass) (f : ℕ → Terminal → Continuation) (n : Continuation) → IsReachable (ATerminal f) → IsOfClass d k → move_by_terminal d (λ form. terminal_form form (f p)) ≡ Some n → StepBack l (ATerminal f) k p n
  terminal_step_back (BeginsTerminal form) f n st i e =
      step_back_as (ATerminal f) (terminal_form form (f p)) n e
      (record {
        reachable = terminal_reachable form (f p) (st p);
        completes =
            λ tree x h. let b = terminal_back l tree form (f p) p x h in
            record {
              value = (p, b.value);
              rest = b.rest;
              phrase = subst (λ (w : What). IsTerminal b.value p (tok w p ∷ x) b.rest) (sym i) b.phrase;
              fit = b.fit;
              after = b.after;
            };
      })
  terminal_step_back _ f n st i e = absurd cc

  -- a declaration, and the others behind it
  declared_then : (d : Declaration) (x r : List Tok) (P : List Tok → Type 0) → P r
      → Then (IsLabel d.name) (Fixed (Sym symbol.Colon) (Fixed (Key (kind_key d.kind)) (Fixed (Sym symbol.Semicolon) (Ends r)))) x
      → Then (IsLabel d.name) (Fixed (Sym symbol.Colon) (Fixed (Key (kind_key d.kind)) (Fixed (Sym symbol.Semicolon) P))) x
  declared_then d x r P k h =
      let c = h.goes_on in
      let e = c.goes_on in
      let s = e.goes_on in
      record { rest = h.rest; phrase_is = h.phrase_is; goes_on = fixed_then c (fixed_then e (fixed_then s (subst P (sym s.goes_on) k))) }

  declaration_is : (ds : List Declaration) (tree : Text) (x : List Tok) → k ≡ Key key.Input → Completed l (declaration_form p (λ d. MoreDeclarations (ds ++ d ∷ []))) tree x → Completed l (MoreDeclarations ds) tree (tok k p ∷ x)
  declaration_is ds tree x e h =
      let b = declaration_back l tree (λ d. MoreDeclarations (ds ++ d ∷ [])) p x h in
      let m = b.after in
      record {
        value = b.value ∷ m.value;
        rest = m.rest;
        phrase =
            subst (λ (q : ℕ). At (Key key.Input) q (Then (IsLabel b.value.name) (Fixed (Sym symbol.Colon) (Fixed (Key (kind_key b.value.kind)) (Fixed (Sym symbol.Semicolon) (λ y. AreDeclared m.value y m.rest))))) (tok k p ∷ x)) (sym b.offset)
            (here (Key key.Input) x e (declared_then b.value x b.rest (λ y. AreDeclared m.value y m.rest) m.phrase b.phrase));
        fit = tt;
        after = subst (λ (es : List Declaration). Ended l es tree m.rest) (append_one ds b.value m.value) m.after;
      }

  declarations_step_back : (d : TokenClass) (ds : List Declaration) (n : Continuation) → IsOfClass d k
      → move_by_input d (declaration_form p (λ e. MoreDeclarations (ds ++ e ∷ []))) (move_by_source d (λ form. source_form form 0 (λ source. MoreStages 0 p source [] (ending ds)))) ≡ Some n
      → StepBack l (MoreDeclarations ds) k p n
  declarations_step_back Declares ds n i e =
      step_back_as (MoreDeclarations ds) (declaration_form p (λ d. MoreDeclarations (ds ++ d ∷ []))) n e
      (record { reachable = λ m kind. tt; completes = λ tree x h. declaration_is ds tree x i h })
  declarations_step_back (BeginsSource form) ds n i e =
      let b = stream_step_back 0 (ending ds) n (λ s. (tt, λ at t. (tt, tt))) (form, (i, cc)) in
      record {
        reachable = b.reachable;
        completes =
            λ tree x h. record {
              value = [];
              rest = tok k p ∷ x;
              phrase = refl;
              fit = tt;
              after = subst (λ (es : List Declaration). Ended l es tree (tok k p ∷ x)) (sym (append-nil ds)) (b.completes tree x h);
            };
      }
  declarations_step_back _ ds n i e = absurd cc

  -- ---- all of them

  pub step_back : (c n : Continuation) → IsReachable c → WithinDepth l c → step c k p ≡ Some n → StepBack l c k p n
  step_back (End t) n st fit e = absurd cc
  step_back (ASeparator w c) n st fit e = separator_step_back w c n st e
  step_back (ALabel f) n st fit e = label_step_back f n st (name_step_back (class_of k) (λ text. f (record { at = p; text = text })) n (is_of_class k) e)
  step_back (AKind f) n st fit e = kind_step_back (class_of k) f n st (is_of_class k) e
  step_back (AnExpression s f) n st fit e = expression_step_back s (machine.step s k p) f n refl st fit (λ u g. step_back (f u) n (st.1 u).1 (fit.1 u) g) e
  step_back (ARow f) n st fit e = row_step_back (class_of k) f n st (is_of_class k) e
  step_back (MoreParts at es f) n st fit e = parts_step_back at es f n st e
  step_back (APattern f) n st fit e = pattern_step_back (class_of k) f n st (is_of_class k) e
  step_back (MoreNames at ns f) n st fit e = names_step_back at ns f n st e
  step_back (Nested m c) n st fit e =
      let b = step_back c n st fit.1 e in
      record { reachable = b.reachable; completes = λ tree x h. (fit.0, b.completes tree x h) }
  step_back (AStream around f) n st fit e = stream_step_back around f n st (source_began (class_of k) around f n (is_of_class k) e)
  step_back (MoreStages around at source ss f) n st fit e = more_stages_step_back (class_of k) around at source ss f n st fit.0 (λ s g. step_back (f s) n (st s).1 (fit.1 s) g) (is_of_class k) e
  step_back (AStage around at source ss f) n st fit e = stage_step_back (class_of k) around at source ss f n st (λ s g. step_back (f s) n (st s).1 (fit.1 s) g) (is_of_class k) e
  step_back (ATerminal f) n st fit e = terminal_step_back (class_of k) f n st (is_of_class k) e
  step_back (MoreDeclarations ds) n st fit e = declarations_step_back (class_of k) ds n (is_of_class k) e
