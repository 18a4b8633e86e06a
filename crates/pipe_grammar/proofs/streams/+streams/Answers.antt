use Rattle.std.proofs.Common.{◌≡◌, ◌+◌, ◌≤◌, arith, List, [], ◌∷◌, ◌++◌, map, refl, sym, ◌∙◌, ap, subst}
use Rattle.std.proofs.lemmas.List.{map-append}
use Rattle.pipe_reader.specs.declared.separator.Separator.TheVariants.{OpenParen, CloseParen, Comma, Arrow}
use Rattle.std.specs.Prelude.{Option, Some, None}
use Rattle.pipe_reader.specs.declared.forms.StageForm.{StageForm}
use Rattle.pipe_reader.specs.Nesting.{stage_depth}
use Rattle.pipe_tree.specs.Parsing.{offset_or_end}
use Rattle.pipe_reader.specs.Continuations.{Continuation, APattern, AStream, AStage, MoreStages, source_form, stage_form}
use Rattle.pipe_reader.specs.declared.forms.SourceForm.TheVariants.{Zip as ZipForm}
use Rattle.pipe_reader.specs.declared.forms.StageForm.TheVariants.{FlatMap as FlatMapForm}
use Rattle.pipe_rows.specs.ReaderState.{after, tokens_behind, result_copy, end_of, left_of, stage_or_end}
use Rattle.pipe_tree.specs.TreeCopies.{boxed_copy, stages_of_list, pattern_of, source_of, stage_at, stage_of, stream_of}
use Rattle.pipe_tree.specs.Trees.{From, Stage, Stream}
use Rattle.pipe_grammar.proofs.Copies.{zip_copy, flat_map_copy}
use Rattle.pipe_rows.proofs.FirstTokens.{stage_taken}
use Rattle.pipe_rows.proofs.FormReading.{Comes, goes_on, here, past, past_separator, unnest, take_token, fails, fails_starts, fails_separator, ends_as, after_fails, after_rest}
use Rattle.pipe_grammar.proofs.streams.+streams.Goals as goal

nothing_else : (found : Option StageForm) → ((form : StageForm) → found ≡ Some form → ⊥) → found ≡ None
nothing_else None h = refl
nothing_else (Some form) h = absurd (h form refl)

pub stream_after-returns-in_err-separator-clause-reads : goal.stream_after-returns-in_err-separator-clause-reads
stream_after-returns-in_err-separator-clause-reads t c =
    after_fails (AStream (c.args.around + 1)) c.args.reader.now c.args.separator (boxed_copy stream_of) c.from_residual.result c.in_err-separator.field-0.0 (left_of c.separator.new.self) (λ f is_shallow u. refl) c.in_err-separator.ensures.reads c.from_residual.ensures

pub stream_after-returns-clause-reads : goal.stream_after-returns-clause-reads
stream_after-returns-clause-reads t c =
    after_rest (AStream (c.args.around + 1)) c.args.reader.now c.separator.new.self c.args.separator (result_copy (boxed_copy stream_of) c.stream.result) (left_of c.stream.new.reader) (λ f is_shallow u. refl) c.in_ok-separator.ensures.reads c.in_ok-separator.ensures.on c.stream.ensures.reads

pub zip-returns-in_err-left-clause-reads : goal.zip-returns-in_err-left-clause-reads
zip-returns-in_err-left-clause-reads t c =
    fails (after OpenParen (AStream (c.args.around + 1))) source_of c.from_residual.result c.in_err-left.field-0.0 (left_of c.stream_after.new.reader)
    (unnest (here (source_form ZipForm c.args.around) c.args.reader.now))
    (λ f is_shallow u. refl) c.in_err-left.ensures.reads c.from_residual.ensures

pub zip-returns-in_err-right-clause-reads : goal.zip-returns-in_err-right-clause-reads
zip-returns-in_err-right-clause-reads t c =
    fails (after Comma (AStream (c.args.around + 1))) source_of c.from_residual-in_err-right.result c.in_err-right.field-0.0 (left_of c.stream_after-2.new.reader)
    (past (after OpenParen (AStream (c.args.around + 1))) (stream_of c.in_ok-left.left.value)
    (unnest (here (source_form ZipForm c.args.around) c.args.reader.now))
    (λ f is_shallow u. refl) c.in_ok-left.ensures.reads c.in_ok-left.ensures.on)
    (λ f is_shallow u. refl) c.in_err-right.ensures.reads c.from_residual-in_err-right.ensures

pub zip-returns-in_err-separator-clause-reads : goal.zip-returns-in_err-separator-clause-reads
zip-returns-in_err-separator-clause-reads t c =
    fails_separator CloseParen source_of c.from_residual-in_err-separator.result c.in_err-separator.field-0.0 (left_of c.separator.new.self)
    (past (after Comma (AStream (c.args.around + 1))) (stream_of c.in_ok-right.right.value)
    (past (after OpenParen (AStream (c.args.around + 1))) (stream_of c.in_ok-left.left.value)
    (unnest (here (source_form ZipForm c.args.around) c.args.reader.now))
    (λ f is_shallow u. refl) c.in_ok-left.ensures.reads c.in_ok-left.ensures.on)
    (λ f is_shallow u. refl) c.in_ok-right.ensures.reads c.in_ok-right.ensures.on)
    (λ f is_shallow u. is_shallow _) c.in_err-separator.ensures.reads c.from_residual-in_err-separator.ensures

pub zip-returns-clause-reads : goal.zip-returns-clause-reads
zip-returns-clause-reads t c =
    ends_as (sym (zip_copy c.in_ok-left.left c.in_ok-right.right))
    (past_separator CloseParen
    (past (after Comma (AStream (c.args.around + 1))) (stream_of c.in_ok-right.right.value)
    (past (after OpenParen (AStream (c.args.around + 1))) (stream_of c.in_ok-left.left.value)
    (unnest (here (source_form ZipForm c.args.around) c.args.reader.now))
    (λ f is_shallow u. refl) c.in_ok-left.ensures.reads c.in_ok-left.ensures.on)
    (λ f is_shallow u. refl) c.in_ok-right.ensures.reads c.in_ok-right.ensures.on)
    (λ f is_shallow u. is_shallow _) c.in_ok-separator.ensures.reads c.in_ok-separator.ensures.on)

pub flat_map-returns-in_err-pat-clause-reads : goal.flat_map-returns-in_err-pat-clause-reads
flat_map-returns-in_err-pat-clause-reads t c = λ at.
    fails APattern (stage_at at) c.from_residual.result c.in_err-pat.field-0.0 (left_of c.pattern.new.reader)
    (unnest (here (stage_form FlatMapForm at c.args.around) c.args.reader.now))
    (λ f is_shallow u. refl) c.in_err-pat.ensures.reads c.from_residual.ensures

pub flat_map-returns-in_err-separator-clause-reads : goal.flat_map-returns-in_err-separator-clause-reads
flat_map-returns-in_err-separator-clause-reads t c = λ at.
    fails_separator Arrow (stage_at at) c.from_residual-in_err-separator.result c.in_err-separator.field-0.0 (left_of c.separator.new.self)
    (past APattern (pattern_of c.in_ok-pat.pat)
    (unnest (here (stage_form FlatMapForm at c.args.around) c.args.reader.now))
    (λ f is_shallow u. refl) c.in_ok-pat.ensures.reads c.in_ok-pat.ensures.on)
    (λ f is_shallow u. refl) c.in_err-separator.ensures.reads c.from_residual-in_err-separator.ensures

pub flat_map-returns-in_err-inner-clause-reads : goal.flat_map-returns-in_err-inner-clause-reads
flat_map-returns-in_err-inner-clause-reads t c = λ at.
    fails (after OpenParen (AStream (c.args.around + 1))) (stage_at at) c.from_residual-in_err-inner.result c.in_err-inner.field-0.0 (left_of c.stream_after.new.reader)
    (past_separator Arrow
    (past APattern (pattern_of c.in_ok-pat.pat)
    (unnest (here (stage_form FlatMapForm at c.args.around) c.args.reader.now))
    (λ f is_shallow u. refl) c.in_ok-pat.ensures.reads c.in_ok-pat.ensures.on)
    (λ f is_shallow u. refl) c.in_ok-separator.ensures.reads c.in_ok-separator.ensures.on)
    (λ f is_shallow u. refl) c.in_err-inner.ensures.reads c.from_residual-in_err-inner.ensures

pub flat_map-returns-in_err-separator-2-clause-reads : goal.flat_map-returns-in_err-separator-2-clause-reads
flat_map-returns-in_err-separator-2-clause-reads t c = λ at.
    fails_separator CloseParen (stage_at at) c.from_residual-in_err-separator-2.result c.in_err-separator-2.field-0.0 (left_of c.separator-2.new.self)
    (past (after OpenParen (AStream (c.args.around + 1))) (stream_of c.in_ok-inner.inner.value)
    (past_separator Arrow
    (past APattern (pattern_of c.in_ok-pat.pat)
    (unnest (here (stage_form FlatMapForm at c.args.around) c.args.reader.now))
    (λ f is_shallow u. refl) c.in_ok-pat.ensures.reads c.in_ok-pat.ensures.on)
    (λ f is_shallow u. refl) c.in_ok-separator.ensures.reads c.in_ok-separator.ensures.on)
    (λ f is_shallow u. refl) c.in_ok-inner.ensures.reads c.in_ok-inner.ensures.on)
    (λ f is_shallow u. is_shallow _) c.in_err-separator-2.ensures.reads c.from_residual-in_err-separator-2.ensures

pub flat_map-returns-clause-reads : goal.flat_map-returns-clause-reads
flat_map-returns-clause-reads t c = λ at.
    ends_as (sym (flat_map_copy at c.in_ok-pat.pat c.in_ok-inner.inner))
    (past_separator CloseParen
    (past (after OpenParen (AStream (c.args.around + 1))) (stream_of c.in_ok-inner.inner.value)
    (past_separator Arrow
    (past APattern (pattern_of c.in_ok-pat.pat)
    (unnest (here (stage_form FlatMapForm at c.args.around) c.args.reader.now))
    (λ f is_shallow u. refl) c.in_ok-pat.ensures.reads c.in_ok-pat.ensures.on)
    (λ f is_shallow u. refl) c.in_ok-separator.ensures.reads c.in_ok-separator.ensures.on)
    (λ f is_shallow u. refl) c.in_ok-inner.ensures.reads c.in_ok-inner.ensures.on)
    (λ f is_shallow u. is_shallow _) c.in_ok-separator-2.ensures.reads c.in_ok-separator-2.ensures.on)

pub stage-returns-in_err-node-clause-starts : goal.stage-returns-in_err-node-clause-starts
stage-returns-in_err-node-clause-starts t c = λ at source ss.
    let x = left_of c.args.reader.now in
    let form = c.args.form in
    let offset = offset_or_end (end_of c.args.reader.now) x in
    let low : stage_depth form c.args.around ≤ 16 = let nesting = c.nesting.ensures in omega arith in
    fails_starts (stage_form form offset c.args.around) stage_of (λ s. MoreStages c.args.around at source (ss ++ s ∷ [])) c.from_residual.result c.in_err-node.field-0.0 (left_of c.stage_behind.new.reader)
    (take_token (λ f. stage_form form offset c.args.around (λ s. MoreStages c.args.around at source (ss ++ s ∷ []) f)) (tokens_behind x) (here (AStage c.args.around at source ss) c.args.reader.now)
    (stage_taken (end_of c.args.reader.now) c.args.around at source ss form x c.requires.form low) c.advance.ensures.left c.advance.ensures.on)
    (λ f is_shallow s. refl) (c.in_err-node.ensures.reads offset) c.from_residual.ensures

pub stages-returns-in_err-form-clause-starts : goal.stages-returns-in_err-form-clause-starts
stages-returns-in_err-form-clause-starts t c = λ at source.
    let stages = map stage_of c.loop-stages.stages in
    fails_starts (MoreStages c.args.around at source stages) {k = λ (f : Stream → Continuation). f} (map stage_of) (λ ss f. f (From at source (stages_of_list ss))) c.from_residual.result c.in_err-form.field-0.0 (left_of c.next_stage.new.reader)
    (c.loop-stages.invariant.comes at source) (λ f is_shallow. is_shallow) (c.in_err-form.ensures.starts at source stages) c.from_residual.ensures

pub stages-returns-in_err-stage-clause-starts : goal.stages-returns-in_err-stage-clause-starts
stages-returns-in_err-stage-clause-starts t c = λ at source.
    let stages = map stage_of c.loop-stages.stages in
    fails_starts (AStage c.args.around at source stages) {k = λ (f : Stream → Continuation). f} (map stage_of) (λ ss f. f (From at source (stages_of_list ss))) c.from_residual-in_err-stage.result c.in_err-stage.field-0.0 (left_of c.stage.new.reader)
    (subst (λ (found : Option StageForm). Comes (MoreStages c.args.around at source []) c.args.reader.now (stage_or_end c.args.around at source stages found) c.next_stage.new.reader) c.in-Some.is
    (take_token (stage_or_end c.args.around at source stages c.in_ok-form.field-0) (left_of c.next_stage.new.reader) (c.loop-stages.invariant.comes at source)
    (c.in_ok-form.ensures.starts at source stages) refl c.in_ok-form.ensures.on))
    (λ f is_shallow. is_shallow) (c.in_err-stage.ensures.starts at source stages) c.from_residual-in_err-stage.ensures

pub stages-loop-stages-preserved : goal.stages-loop-stages-preserved
stages-loop-stages-preserved t c = record {
  on = goes_on c.loop-stages.invariant.on (goes_on c.in_ok-form.ensures.on c.in_ok-stage.ensures.on);
  comes = λ at source.
      let stages = map stage_of c.loop-stages.stages in
      let more : c.push.new.self ≡ c.loop-stages.stages ++ c.in_ok-stage.field-0 ∷ [] = c.in_ok-push.ensures.ok in
      subst (λ (ss : List Stage). Comes (MoreStages c.args.around at source []) c.args.reader.now (MoreStages c.args.around at source ss) c.stage.new.reader)
      (sym (ap (map stage_of) more ∙ map-append stage_of c.loop-stages.stages (c.in_ok-stage.field-0 ∷ [])))
      (take_token (MoreStages c.args.around at source (stages ++ stage_of c.in_ok-stage.field-0 ∷ [])) (left_of c.stage.new.reader)
      (subst (λ (found : Option StageForm). Comes (MoreStages c.args.around at source []) c.args.reader.now (stage_or_end c.args.around at source stages found) c.next_stage.new.reader) c.in-Some.is
      (take_token (stage_or_end c.args.around at source stages c.in_ok-form.field-0) (left_of c.next_stage.new.reader) (c.loop-stages.invariant.comes at source)
      (c.in_ok-form.ensures.starts at source stages) refl c.in_ok-form.ensures.on))
      (c.in_ok-stage.ensures.starts at source stages) refl c.in_ok-stage.ensures.on);
}

pub stages-returns-clause-starts : goal.stages-returns-clause-starts
stages-returns-clause-starts t c = λ at source.
    let stages = map stage_of c.loop-stages.stages in
    let none : c.in_ok-form.field-0 ≡ None = nothing_else c.in_ok-form.field-0 c.in_default.not-Some in
    (subst (λ (found : Option StageForm). Comes (MoreStages c.args.around at source []) c.args.reader.now (stage_or_end c.args.around at source stages found) c.next_stage.new.reader) none
    (take_token (stage_or_end c.args.around at source stages c.in_ok-form.field-0) (left_of c.next_stage.new.reader) (c.loop-stages.invariant.comes at source)
    (c.in_ok-form.ensures.starts at source stages) refl c.in_ok-form.ensures.on)).comes

pub stream-returns-in_err-stages-clause-reads : goal.stream-returns-in_err-stages-clause-reads
stream-returns-in_err-stages-clause-reads t c =
    let source = source_of c.in_ok-source.source.value in
    let offset = offset_or_end (end_of c.args.reader.now) (left_of c.args.reader.now) in
    fails (MoreStages c.args.around offset source []) {k = λ (f : Stream → Continuation). f} (boxed_copy stream_of) c.from_residual-in_err-stages.result c.in_err-stages.field-0.0 (left_of c.stages.new.reader)
    (take_token (MoreStages c.args.around offset source []) (left_of c.source.new.reader) (here (AStream c.args.around) c.args.reader.now)
    c.in_ok-source.ensures.starts refl c.in_ok-source.ensures.on)
    (λ f is_shallow. is_shallow) (c.in_err-stages.ensures.starts offset source) c.from_residual-in_err-stages.ensures
