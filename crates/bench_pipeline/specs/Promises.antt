-- What is promised of the definitions. Each statement has one name, which its law and those who stand on it cite.
use Rattle.std.specs.Prelude.{◌≡◌, ◌≤◌, ◌+◌, ◌*◌, ℕ, [], ◌∷◌}
use Rattle.list_denotation.specs.declared.event.Event.TheVariants.{Emit, EndRow}
use Rattle.list_denotation.specs.Inputs.{Fits}
use Rattle.list_denotation.specs.Observation.{Done, observation}
use Rattle.list_denotation.specs.Work.{work}
use Rattle.pipe_limits.specs.declared.TheConstants.{MOST_ITEMS}
use Rattle.bench_pipeline.specs.Pipelines.{bench_pipeline, bench_inputs}

-- The items are an input that fits the pipeline, where they are no more than an array may have.
abbrev pub BenchInputsFit : Type 0
BenchInputsFit =
    (seed count : ℕ) → count ≤ MOST_ITEMS
    → Fits (bench_inputs seed count) bench_pipeline.inputs

-- Where each source may give three rows more than there are items, the lists come to an end, and one row
-- of two words is seen.
abbrev pub BenchShowsOneRow : Type 0
BenchShowsOneRow =
    (seed count : ℕ) → (s : ℕ) × ((c : ℕ) × (observation bench_pipeline (bench_inputs seed count) (count + 3)
    ≡ record { events = Emit s ∷ Emit c ∷ EndRow ∷ []; standing = Done }))

-- The work of these lists is at most 2 for the arrays, and 9 for each item.
abbrev pub BenchIsLittleWork : Type 0
BenchIsLittleWork =
    (seed count : ℕ)
    → work bench_pipeline (bench_inputs seed count) (count + 3) ≤ 9 * count + 2
