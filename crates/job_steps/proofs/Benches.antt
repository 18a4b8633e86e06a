-- A bench ends in one way.
use Rattle.std.proofs.Common.{◌≡◌, ◌+◌, ℕ, List, sym, ap, ◌∙◌}
use Rattle.bench_pipeline.specs.Pipelines.{bench_inputs}
use Rattle.bench_pipeline.specs.Texts.{bench_text}
use Rattle.count_lines.specs.CountLines.{bench_lines}
use Rattle.event_texts.specs.Texts.{events_text}
use Rattle.list_denotation.specs.Observation.{Seen, observation}
use Rattle.list_denotation.specs.Terms.{Pipeline}
use Rattle.status_lines.specs.declared.statuses.Status.{Status}
use Rattle.job_steps.specs.Pipelines.{IsPipelineFile}
use Rattle.job_steps.specs.Works.{Benching, Ends, IsBenched}

abbrev pub OnePipeline : Type 0
OnePipeline = (src : List ℕ) (p q : Pipeline) → IsPipelineFile src p → IsPipelineFile src q → p ≡ q

module _ (seed count : ℕ) where
  -- the lines for what is seen of a pipeline
  abbrev seen_lines : Pipeline → Seen → List ℕ
  seen_lines p o = bench_lines p count (events_text o.events)

  abbrev shown_lines : Pipeline → List ℕ
  shown_lines p = seen_lines p (observation p (bench_inputs seed count) (count + 3))

  as_shown : (text : List ℕ) (h : IsBenched seed count text) → text ≡ shown_lines h.pipeline
  as_shown text h = h.is ∙ ap (seen_lines h.pipeline) (sym h.shows)

  text_one : OnePipeline → (a b : List ℕ) → IsBenched seed count a → IsBenched seed count b → a ≡ b
  text_one one a b h k =
      as_shown a h ∙ ap shown_lines (one bench_text h.pipeline k.pipeline h.is_file k.is_file) ∙ sym (as_shown b k)

  pub benched_one : OnePipeline → (s t : Status) (a b : List ℕ) → Ends (Benching seed count) s a → Ends (Benching seed count) t b → (s ≡ t) × (a ≡ b)
  benched_one one s t a b h k = (h.0 ∙ sym k.0, text_one one a b h.1 k.1)
