-- Reading the text of the bench: it is the file of its pipeline, and is never refused.
use Rattle.std.proofs.Common.{◌≡◌, inl, inr, ℕ, List, Option, Some, None, Ok, Err, refl, subst}
use Rattle.bench_pipeline.specs.Pipelines.{bench_pipeline}
use Rattle.bench_pipeline.specs.Texts.{bench_text}
use Rattle.job_files.specs.Sources.{source_of}
use Rattle.job_steps.specs.Pipelines.{IsPipelineFile, HasRefusal, ReadsPipeline, Source}
use Rattle.job_steps.specs.Steps.{ComesOf}
use Rattle.job_steps.specs.Works.{Benching, Ends}
use Rattle.job_work.specs.Working.{Does}
use Rattle.status_lines.specs.declared.refusals.Refusal.{Refusal}
use Rattle.status_lines.specs.declared.statuses.Status.{Status}
use Rattle.status_lines.specs.declared.statuses.Status.TheVariants.{NoMemory, Refused}

abbrev pub OneRefusal : Type 0
OneRefusal = (src : List ℕ) (a b : Option Refusal) → HasRefusal src a → HasRefusal src b → a ≡ b

-- reading fails by refusals alone
fails_by_refusal : (src : List ℕ) (s : Status) → ReadsPipeline src (Err s) → (refusal : Refusal) × (s ≡ Refused refusal)
fails_by_refusal src (Refused refusal) h = (refusal, refl)
fails_by_refusal src s (inl h) = absurd h
fails_by_refusal src s (inr (toks, (lexed, inl h))) = absurd h
fails_by_refusal src s (inr (toks, (lexed, inr h))) = absurd h.1.1

module _ (is_file : IsPipelineFile bench_text bench_pipeline) (src : List ℕ) (is : src ≡ bench_text) where
  -- what it reads as is what it is the file of
  pub read_file : (source : Source) → ReadsPipeline src (Ok source) → IsPipelineFile bench_text source.pipeline
  read_file source h =
      record { within = is_file.within; names = source.names; reads = subst (λ (bytes : List ℕ). ReadsPipeline bytes (Ok source)) is h }

  never_refused : OneRefusal → (s : Status) → ReadsPipeline src (Err s) → ⊥
  never_refused one s h =
      let by = fails_by_refusal src s h in
      let refused = subst (λ (t : Status). ReadsPipeline bench_text (Err t)) by.1 (subst (λ (bytes : List ℕ). ReadsPipeline bytes (Err s)) is h) in
      let e = one bench_text None (Some by.0) (record { names = is_file.names; pipeline = bench_pipeline }, is_file.reads) refused in
      cc

  -- what reading fails by is want of memory
  pub unread_end : OneRefusal → (seed count : ℕ) (s : Status) → ComesOf source_of (ReadsPipeline src) (Err s) → (out : Option (List ℕ)) (n : ℕ) → Does (Ends (Benching seed count)) out out n n s
  unread_end one seed count NoMemory h out n = refl
  unread_end one seed count s h out n = absurd (never_refused one s h)
