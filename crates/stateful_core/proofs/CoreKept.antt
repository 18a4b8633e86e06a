-- The core of a typed stream has all that is promised of it.
use Rattle.std.proofs.Common.{ℕ, ◌+◌, ◌*◌, ◌^◌, ◌≤◌, max, [], refl, sym, ◌∙◌, arith}
use Rattle.std.specs.Prelude.{IsTrue, nat_lt}
use Rattle.std.proofs.lemmas.Bool.{lt-ltb}
use Rattle.std.proofs.lemmas.List.Elements.{All-nil}
use Rattle.strm_num.specs.Words.{IsWord}
use Rattle.strm_num.proofs.Truths.{both_true, true_both}
use Rattle.list_denotation.specs.declared.program.Program.{Program}
use Rattle.list_denotation.specs.Copies.{pipe_of, finish_of}
use Rattle.list_denotation.specs.Counts.{stream_ops, stream_depth, depth}
use Rattle.list_denotation.specs.InputNames.{InputNames, is_named_leaf, declared_inputs}
use Rattle.list_denotation.specs.Literals.{is_word_leaf, pipe_has_words, finish_has_words, program_has_words}
use Rattle.list_denotation.specs.Pipelines.{pipeline_of}
use Rattle.list_denotation.specs.Terms.{Pipe}
use Rattle.list_denotation.specs.Typing.{is_typed}
use Rattle.denotation_laws.specs.StreamScopes.{StreamReadsScope}
use Rattle.stateful_core.specs.CorePromise.{IsCoreOf}
use Rattle.stateful_core.specs.CoreTerms.{CoreTerm}
use Rattle.stateful_core.specs.Laws.{Laws}
use Rattle.stateful_core.specs.MostWords.{most_words}
use Rattle.stateful_core.specs.StreamCores.{core_at}
use Rattle.stateful_core.specs.WellFormed.{is_sound_core}
use Rattle.stateful_core.proofs.CoreWidths.{scope_at, width_at, zips_at}
use Rattle.stateful_core.proofs.SoundCores.{sound_at, leaves_at}
use Rattle.stateful_core.proofs.StreamRows.{rows_at, work_at}
use Rattle.stateful_core.proofs.StreamScopes.{same_width}
use Rattle.stateful_core.proofs.WordCounts.{words_at, temps_at}

module _ (laws : Laws) (p : Program) (typed : IsTrue (is_typed p.inputs p.stream p.terminal)) (words : IsTrue (program_has_words p.stream p.terminal)) where
  abbrev s : Pipe
  s = pipe_of p.stream

  abbrev c : CoreTerm
  c = core_at 0 s

  abbrev may : InputNames
  may = declared_inputs p.inputs

  stream_words : IsTrue (pipe_has_words s)
  stream_words = (both_true (pipe_has_words s) (finish_has_words (finish_of p.terminal)) words).0

  pub core_scoped : StreamReadsScope may 0 s
  core_scoped = (laws.scopes p.inputs p.stream p.terminal typed words).0

  few_words : (d : ℕ) → most_words c d ≤ 32 * stream_ops s + 6 * max d (stream_depth s) + 40
  few_words d = omega (arith, words_at may s 0 core_scoped, temps_at s 0, scope_at s 0)

  pub core_kept : IsCoreOf (pipeline_of p) c
  core_kept =
      let limits = laws.limits p.inputs p.stream p.terminal typed in
      record {
        well_formed = true_both (is_sound_core c) (nat_lt (most_words c 0) (2 ^ 32)) (sound_at laws may s 0 core_scoped)
            (lt-ltb (most_words c 0) (2 ^ 32) (omega (arith, few_words 0, limits.few_ops, limits.small_stream_depth)));
        scope = scope_at s 0;
        width = λ ks q. width_at s 0 ∙ sym (same_width may s 0 core_scoped) ∙ laws.widths p.inputs [] ks s q stream_words;
        names = leaves_at (is_named_leaf may) (λ k. refl) refl refl (λ b. refl) may (λ k h. h) (λ n e h. h.names) (λ n es h. h.names) s 0 0 core_scoped;
        numbers = leaves_at is_word_leaf (λ k. refl) refl refl (λ b. refl) may (λ k h. refl) (λ n e h. h.words) (λ n es h. h.words) s 0 0 core_scoped;
        rows = λ inputs n fits. rows_at laws may p.inputs inputs fits n s [] (All-nil IsWord) core_scoped stream_words;
        work = λ inputs n fits. work_at laws may p.inputs inputs fits n s [] (All-nil IsWord) core_scoped stream_words;
        words = omega (arith, few_words (depth (pipeline_of p)));
        zips = λ h. sym (zips_at s 0) ∙ h;
      }
