-- What running the pipeline of the bench gives: its lists come to an end within the turns.
use Rattle.std.proofs.Common.{◌≡◌, ◌≤◌, ◌+◌, ◌*◌, inl, inr, ℕ, List, [], ◌∷◌, ◌++◌, Option, Some, refl, sym, ap, subst, ◌∙◌, arith}
use Rattle.bench_pipeline.specs.Pipelines.{bench_inputs, bench_pipeline}
use Rattle.bench_pipeline.specs.Texts.{bench_text}
use Rattle.count_lines.specs.CountLines.{bench_lines}
use Rattle.command_words.specs.declared.jobs.TheConstants.{DEFAULT_TURNS, MOST_BENCH_ITEMS}
use Rattle.event_texts.specs.Texts.{events_text}
use Rattle.job_steps.specs.Pipelines.{IsPipelineFile}
use Rattle.job_steps.specs.Works.{Benching, Ends, IsRun, IsSeen, Running, status_at}
use Rattle.job_work.specs.Working.{Does}
use Rattle.job_work.proofs.DoneWork.{does_more}
use Rattle.list_denotation.specs.declared.event.Event.TheVariants.{Emit, EndRow}
use Rattle.list_denotation.specs.declared.input.Input.{Input}
use Rattle.list_denotation.specs.Far.{Far}
use Rattle.list_denotation.specs.Inputs.{Fits}
use Rattle.list_denotation.specs.Observation.{Done, Seen, observation}
use Rattle.list_denotation.specs.Terms.{Pipeline}
use Rattle.list_denotation.specs.Work.{work}
use Rattle.pipe_limits.specs.declared.TheConstants.{MOST_ITEMS}
use Rattle.status_lines.specs.declared.statuses.Status.{Status}
use Rattle.status_lines.specs.declared.statuses.Status.TheVariants.{Missing, NoMemory, ReadFault, WriteFault}
use Rattle.status_lines.specs.declared.statuses.Status.TheVariants as status

-- ---- what is known of the bench

-- what is seen of one row of two words
abbrev pub two_words : ℕ → ℕ → Seen
two_words s c = record { events = Emit s ∷ Emit c ∷ EndRow ∷ []; standing = Done }

abbrev pub ShowsOneRow : Type 0
ShowsOneRow = (seed count : ℕ) → (s : ℕ) × ((c : ℕ) × (observation bench_pipeline (bench_inputs seed count) (count + 3) ≡ two_words s c))

abbrev pub IsLittleWork : Type 0
IsLittleWork = (seed count : ℕ) → work bench_pipeline (bench_inputs seed count) (count + 3) ≤ 9 * count + 2

abbrev pub InputsFit : Type 0
InputsFit = (seed count : ℕ) → count ≤ MOST_ITEMS → Fits (bench_inputs seed count) bench_pipeline.inputs

abbrev pub RunsFollow : Type 0
RunsFollow = (p : Pipeline) (inputs : List Input) (n : ℕ) (end : Status) (text : List ℕ) → Fits inputs p.inputs → IsRun p inputs n end text
    → (o : Seen) × (IsSeen n o end text × Far o (observation p inputs n) × ((m : ℕ) → work p inputs m ≤ n → Far (observation p inputs m) o))

-- ---- the run

-- a run whose end is that of one row of two words, which the lists show
pub record IsRow (seed count : ℕ) (end : Status) (text : List ℕ) : Type 0 where
  pub sum : ℕ
  pub products : ℕ
  pub shows : observation bench_pipeline (bench_inputs seed count) (count + 3) ≡ two_words sum products
  pub done : end ≡ status.Done
  pub is : text ≡ events_text (Emit sum ∷ Emit products ∷ EndRow ∷ [])

module _ (runs : RunsFollow) (rows : ShowsOneRow) (little : IsLittleWork) (fit : InputsFit) (seed count : ℕ) (few : count ≤ MOST_BENCH_ITEMS) where
  -- what is done at some pulls is what a run shows that goes as far
  done_same : (s c : ℕ) (o u : Seen) → o ≡ two_words s c → Far o u → u ≡ two_words s c
  done_same s c o u e (inl same) = sym same ∙ e
  done_same s c o u e (inr goes) = let going = goes.going in absurd cc

  row_seen : (s c : ℕ) (u : Seen) (end : Status) (text : List ℕ) → u ≡ two_words s c → IsSeen DEFAULT_TURNS u end text
      → (end ≡ status.Done) × (text ≡ events_text (Emit s ∷ Emit c ∷ EndRow ∷ []))
  row_seen s c u end text e seen =
      (seen.0 ∙ ap (λ (v : Seen). status_at DEFAULT_TURNS v.standing) e, seen.1 ∙ ap (λ (v : Seen). events_text v.events) e)

  pub run_is_row : (end : Status) (text : List ℕ) → IsRun bench_pipeline (bench_inputs seed count) DEFAULT_TURNS end text → IsRow seed count end text
  run_is_row end text run =
      let row = rows seed count in
      let run_seen = runs bench_pipeline (bench_inputs seed count) DEFAULT_TURNS end text (fit seed count (omega (arith, few))) run in
      let far = run_seen.1.2 (count + 3) (omega (arith, few, little seed count)) in
      let same = done_same row.0 row.1.0 _ run_seen.0 row.1.1 far in
      let ends = row_seen row.0 row.1.0 run_seen.0 end text same run_seen.1.0 in
      record { sum = row.0; products = row.1.0; shows = row.1.1; done = ends.0; is = ends.1 }

  -- ---- the row in memory, where nothing was before

  module _ (p : Pipeline) (inputs : List Input) (is : p ≡ bench_pipeline) (are : inputs ≡ bench_inputs seed count) where
    run_of_bench : (end : Status) (text : List ℕ) → IsRun p inputs DEFAULT_TURNS end text → IsRow seed count end text
    run_of_bench end text run =
        run_is_row end text
        (subst (λ (q : Pipeline). IsRun q (bench_inputs seed count) DEFAULT_TURNS end text) is
        (subst (λ (i : List Input). IsRun p i DEFAULT_TURNS end text) are run))

    written_is : (row row' text : List ℕ) → row ≡ [] → Some row' ≡ Some (row ++ text) → text ≡ row'
    written_is row row' text empty e =
        let appended : Some row' ≡ Some ([] ++ text) = subst (λ (w : List ℕ). Some row' ≡ Some (w ++ text)) empty e in cc

    pub row_written : (row row' : List ℕ) (faults faults' : ℕ) → row ≡ [] → Does (Ends (Running p inputs DEFAULT_TURNS)) (Some row) (Some row') faults faults' status.Done
        → IsRow seed count status.Done row'
    row_written row row' faults faults' empty h =
        subst (IsRow seed count status.Done) (written_is row row' h.0 empty h.1.1) (run_of_bench status.Done h.0 h.1.0)

    -- the run ends with no other status, but where memory is refused
    pub no_other_end : (row row' : List ℕ) (faults faults' : ℕ) (s : Status) → Does (Ends (Running p inputs DEFAULT_TURNS)) (Some row) (Some row') faults faults' s
        → (s ≡ status.Done → ⊥) → (s ≡ WriteFault → ⊥) → (out : Option (List ℕ)) (n : ℕ) → Does (Ends (Benching seed count)) out out n n s
    no_other_end row row' faults faults' NoMemory h other unwritten out n = refl
    no_other_end row row' faults faults' WriteFault h other unwritten out n = absurd (unwritten refl)
    no_other_end row row' faults faults' (Missing name) h other unwritten out n = h
    no_other_end row row' faults faults' (ReadFault name) h other unwritten out n = h
    no_other_end row row' faults faults' s h other unwritten out n = let r = run_of_bench s h.0 h.1.0 in absurd (other r.done)

-- ---- the lines

module _ (is_file : IsPipelineFile bench_text bench_pipeline) (seed count : ℕ) (p : Pipeline) (is : p ≡ bench_pipeline) (row : List ℕ) (r : IsRow seed count status.Done row) where
  lines_end : (s : Status) (text : List ℕ) → (s ≡ status.Done) × (text ≡ bench_lines p count row) → Ends (Benching seed count) s text
  lines_end s text h = (
    h.0,
    record {
      pipeline = bench_pipeline;
      is_file = is_file;
      sum = r.sum;
      products = r.products;
      shows = r.shows;
      is = h.1 ∙ ap (λ (q : Pipeline). bench_lines q count row) is ∙ ap (bench_lines bench_pipeline count) r.is;
    },
  )

  pub lines_done : (out out' : Option (List ℕ)) (faults faults' : ℕ) (s : Status) → Does (λ end text. (end ≡ status.Done) × (text ≡ bench_lines p count row)) out out' faults faults' s
      → Does (Ends (Benching seed count)) out out' faults faults' s
  lines_done out out' faults faults' s h =
      does_more (λ end text. (end ≡ status.Done) × (text ≡ bench_lines p count row)) (Ends (Benching seed count)) out out' faults faults' s lines_end h
