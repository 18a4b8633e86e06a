-- The work of a command, and how it ends: with a status and the text that is written.
use Rattle.std.specs.Prelude.{◌≡◌, ℕ, ◌+◌, ◌<◌, ◌≤◌, List, [], ◌∷◌}
use Rattle.bench_pipeline.specs.Pipelines.{bench_inputs}
use Rattle.bench_pipeline.specs.Texts.{bench_text}
use Rattle.c_grammar.specs.Reading.{Reads}
use Rattle.count_lines.specs.CountLines.{bench_lines, counts_text}
use Rattle.event_texts.specs.Texts.{events_text}
use Rattle.list_denotation.specs.declared.event.Event.TheVariants.{Emit, EndRow}
use Rattle.list_denotation.specs.declared.input.Input.{Input}
use Rattle.list_denotation.specs.Observation.{Standing, Done, Going, Failed, Seen, observation}
use Rattle.list_denotation.specs.Terms.{Pipeline}
use Rattle.list_denotation.specs.Values.{Trap, Stuck}
use Rattle.list_denotation.specs.Work.{work}
use Rattle.headline.specs.Headline.{IsEmitted}
use Rattle.loop_ir.specs.Layout.{layout}
use Rattle.loop_ir.specs.Meaning.{meaning}
use Rattle.loop_ir.specs.Statements.{Routine}
use Rattle.loop_ir.specs.WellFormed.{IsWellFormed}
use Rattle.pipe_limits.specs.declared.TheConstants.{MOST_WORK}
use Rattle.status_lines.specs.declared.statuses.Status.{Status}
use Rattle.status_lines.specs.declared.statuses.Status.TheVariants as status
use Rattle.job_steps.specs.Pipelines.{IsPipelineFile}

-- what is to be done, when all is read that it needs
pub data Work : Type 0 where
  -- the counts of a pipeline
  Counting : Pipeline → Work
  -- its C text
  Compiling : Pipeline → Work
  -- running it on inputs, or the program of a C text, with so many turns
  Running : Pipeline → List Input → ℕ → Work
  Executing : Routine → List Input → ℕ → Work
  -- what its lists give, where each source is cut off behind so many rows
  Listing : Pipeline → List Input → ℕ → Work
  -- running the pipeline of the bench on so many items of a seed
  Benching : ℕ → ℕ → Work

-- the bytes are the C text of a program of the pipeline: by the grammar they read as this program, and as no other
pub record IsTextOf (p : Pipeline) (c : List ℕ) : Type 0 where
  pub routine : Routine
  pub well_formed : IsWellFormed routine
  pub text : c ≡ layout routine
  pub reads : Reads c routine
  pub only : (other : Routine) → Reads c other → other ≡ routine
  pub emitted : IsEmitted p routine

-- the status for how a run stands at a bound
abbrev pub status_at : ℕ → Standing → Status
status_at n Done = status.Done
status_at n Going = status.Spent n
status_at n (Failed Trap) = status.Trap
status_at n (Failed Stuck) = status.Undefined

-- the status and the text are those of what is seen at a bound
abbrev pub IsSeen : ℕ → Seen → Status → List ℕ → Type 0
IsSeen n seen end text = (end ≡ status_at n seen.standing) × (text ≡ events_text seen.events)

-- the status and the text are those of a program of the pipeline, which names nothing that it doesn't declare
pub record IsRun (p : Pipeline) (inputs : List Input) (n : ℕ) (end : Status) (text : List ℕ) : Type 0 where
  pub routine : Routine
  pub well_formed : IsWellFormed routine
  pub emitted : IsEmitted p routine
  pub seen : IsSeen n (meaning routine inputs n) end text

-- the lists are computed only where this is little enough work
abbrev pub IsListed : Pipeline → List Input → ℕ → Status → List ℕ → Type 0
IsListed p inputs n status.TooMuch text = (MOST_WORK < work p inputs n) × (text ≡ [])
IsListed p inputs n end text = (work p inputs n ≤ MOST_WORK) × IsSeen n (observation p inputs n) end text

-- the text is that of the pipeline of the bench: its lists come to an end, and give one row of two words
pub record IsBenched (seed count : ℕ) (text : List ℕ) : Type 0 where
  pub pipeline : Pipeline
  pub is_file : IsPipelineFile bench_text pipeline
  pub sum : ℕ
  pub products : ℕ
  pub shows : observation pipeline (bench_inputs seed count) (count + 3) ≡ record { events = Emit sum ∷ Emit products ∷ EndRow ∷ []; standing = Done }
  pub is : text ≡ bench_lines pipeline count (events_text (Emit sum ∷ Emit products ∷ EndRow ∷ []))

-- the work ends with this status and this text
abbrev pub Ends : Work → Status → List ℕ → Type 0
Ends (Counting p) end text = (end ≡ status.Done) × (text ≡ counts_text p)
Ends (Compiling p) end text = (end ≡ status.Done) × IsTextOf p text
Ends (Running p inputs n) end text = IsRun p inputs n end text
Ends (Executing q inputs n) end text = IsSeen n (meaning q inputs n) end text
Ends (Listing p inputs n) end text = IsListed p inputs n end text
Ends (Benching seed count) end text = (end ≡ status.Done) × IsBenched seed count text
