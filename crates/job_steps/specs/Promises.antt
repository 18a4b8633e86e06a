-- What is promised of the definitions. Each statement has one name, which its law and those who stand on it cite.
use Rattle.std.specs.Prelude.{◌≡◌, ◌≤◌, ◌↔◌, ℕ, List, Option, Some, None, Result, Ok, Err, length}
use Rattle.command_words.specs.Commands.{job_of}
use Rattle.job_steps.specs.Answers.{IsOneUnlessUnread}
use Rattle.job_steps.specs.Jobs.{Prepares}
use Rattle.job_steps.specs.Pipelines.{IsPipelineFile, HasRefusal}
use Rattle.job_steps.specs.Works.{Benching, Counting, Ends, Executing, IsRun, IsSeen, Listing, Running, Work}
use Rattle.list_denotation.specs.declared.input.Input.{Input}
use Rattle.list_denotation.specs.Far.{Far}
use Rattle.list_denotation.specs.Inputs.{Fits}
use Rattle.list_denotation.specs.Observation.{Seen, observation}
use Rattle.list_denotation.specs.Terms.{Pipeline}
use Rattle.list_denotation.specs.Work.{work}
use Rattle.loop_ir.specs.Statements.{Routine}
use Rattle.pipe_limits.specs.declared.TheConstants.{MOST_BYTES}
use Rattle.status_lines.specs.declared.refusals.Refusal.{Refusal}
use Rattle.status_lines.specs.declared.statuses.Status.{Status}
use Rattle.status_lines.specs.declared.statuses.Status.TheVariants.{Undefined, Words}
use Rattle.strm_io.specs.Store.{Store}

-- A file is one pipeline at most.
abbrev pub FilesAreOnePipeline : Type 0
FilesAreOnePipeline =
    (src : List ℕ) (p q : Pipeline) →
    IsPipelineFile src p → IsPipelineFile src q → p ≡ q

-- A file has one refusal at most, and none beside it.
abbrev pub FilesHaveOneRefusal : Type 0
FilesHaveOneRefusal =
    (src : List ℕ) (a b : Option Refusal) →
    HasRefusal src a → HasRefusal src b → a ≡ b

-- Each file of bytes has a refusal or none: together with the law before it, exactly one of these.
abbrev pub EachFileHasItsRefusal : Type 0
EachFileHasItsRefusal =
    (src : List ℕ) → (o : Option Refusal) × HasRefusal src o

-- A file of at most 65,536 bytes has no refusal exactly where it is some pipeline.
abbrev pub PipelinesHaveNoRefusal : Type 0
PipelinesHaveNoRefusal =
    (src : List ℕ) → length src ≤ MOST_BYTES →
    HasRefusal src None ↔ ((p : Pipeline) × IsPipelineFile src p)

-- Over a store that tells, one thing at most comes of the words: work, or the status of a step that
-- fails. That a file isn't read is beside this, for any loading may fail.
abbrev pub WordsComeToOne : Type 0
WordsComeToOne =
    (store : Store) (words : List (List ℕ)) (a b : Result Work Status)
    → Prepares (Some store) words a → Prepares (Some store) words b → IsOneUnlessUnread a b

-- The inputs of work are those that its program declares.
abbrev pub InputsOfRunsFit : Type 0
InputsOfRunsFit =
    (store : Option Store) (words : List (List ℕ)) (p : Pipeline) (inputs : List Input) (n : ℕ)
    → Prepares store words (Ok (Running p inputs n)) → Fits inputs p.inputs

abbrev pub InputsOfListingsFit : Type 0
InputsOfListingsFit =
    (store : Option Store) (words : List (List ℕ)) (p : Pipeline) (inputs : List Input) (n : ℕ)
    → Prepares store words (Ok (Listing p inputs n)) → Fits inputs p.inputs

abbrev pub InputsOfExecutionsFit : Type 0
InputsOfExecutionsFit =
    (store : Option Store) (words : List (List ℕ)) (q : Routine) (inputs : List Input) (n : ℕ)
    → Prepares store words (Ok (Executing q inputs n)) → Fits inputs q.params

-- What a run of a pipeline shows at so many turns goes no further than its lists at as many pulls, and
-- at least as far as its lists at any number of pulls where their work is at most the turns.
abbrev pub RunsFollowTheLists : Type 0
RunsFollowTheLists =
    (p : Pipeline) (inputs : List Input) (n : ℕ) (end : Status) (text : List ℕ)
    → Fits inputs p.inputs → IsRun p inputs n end text
    → (o : Seen) × (IsSeen n o end text × Far o (observation p inputs n)
    × ((m : ℕ) → work p inputs m ≤ n → Far (observation p inputs m) o))

-- Only words that are no command end as such, and no work does.
abbrev pub OnlyNoCommandFailsAsWords : Type 0
OnlyNoCommandFailsAsWords =
    (store : Option Store) (words : List (List ℕ))
    → Prepares store words (Err Words) → job_of words ≡ None

abbrev pub NoWorkEndsAsWords : Type 0
NoWorkEndsAsWords =
    (work : Work) (text : List ℕ) → Ends work Words text → ⊥

-- No pipeline does what C leaves undefined: a program that does is that of a C text.
abbrev pub PipelinesAreNeverUndefined : Type 0
PipelinesAreNeverUndefined =
    (store : Option Store) (words : List (List ℕ)) (work : Work) (text : List ℕ)
    → Prepares store words (Ok work) → Ends work Undefined text
    → (q : Routine) × ((inputs : List Input) × ((n : ℕ) × (work ≡ Executing q inputs n)))

-- Work that isn't left to the choice of a program ends in one way.
abbrev pub CountingEndsInOneWay : Type 0
CountingEndsInOneWay =
    (p : Pipeline) (s t : Status) (a b : List ℕ)
    → Ends (Counting p) s a → Ends (Counting p) t b → (s ≡ t) × (a ≡ b)

abbrev pub ExecutionsEndInOneWay : Type 0
ExecutionsEndInOneWay =
    (q : Routine) (inputs : List Input) (n : ℕ) (s t : Status) (a b : List ℕ)
    → Ends (Executing q inputs n) s a → Ends (Executing q inputs n) t b
    → (s ≡ t) × (a ≡ b)

abbrev pub ListingsEndInOneWay : Type 0
ListingsEndInOneWay =
    (p : Pipeline) (inputs : List Input) (n : ℕ) (s t : Status) (a b : List ℕ)
    → Ends (Listing p inputs n) s a → Ends (Listing p inputs n) t b
    → (s ≡ t) × (a ≡ b)

abbrev pub BenchesEndInOneWay : Type 0
BenchesEndInOneWay =
    (seed count : ℕ) (s t : Status) (a b : List ℕ)
    → Ends (Benching seed count) s a → Ends (Benching seed count) t b → (s ≡ t) × (a ≡ b)
