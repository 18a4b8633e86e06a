-- Steps that never fail with a status: those of a command never fail with the status of words.
use Rattle.std.proofs.Common.{◌≡◌, ◌≢◌, inl, inr, ℕ, ◌+◌, Bool, true, false, not, if◌then◌else◌, List, [], ◌∷◌, ◌++◌, drop, Option, Some, None, Result, Ok, Err, refl}
use Rattle.std.specs.Option.{option_or}
use Rattle.command_words.specs.Bindings.{name_in}
use Rattle.command_words.specs.Commands.{job_of, file_of}
use Rattle.command_words.specs.declared.jobs.Job.{Job}
use Rattle.command_words.specs.declared.jobs.Job.TheVariants.{Check, Compile, Run, Exec, Model, Bench}
use Rattle.list_denotation.specs.declared.input.Input.{Input}
use Rattle.list_denotation.specs.declared.input.InputKind.{InputKind}
use Rattle.list_denotation.specs.declared.input.InputKind.TheVariants as kind
use Rattle.list_denotation.specs.Terms.{Pipeline}
use Rattle.pipe_limits.specs.declared.TheConstants.{MOST_BYTES, MOST_C_BYTES, MOST_VALUE_BYTES}
use Rattle.strm_io.specs.Store.{Store}
use Rattle.status_lines.specs.declared.statuses.InputName.{InputName}
use Rattle.status_lines.specs.declared.statuses.Status.{Status}
use Rattle.status_lines.specs.declared.statuses.Status.TheVariants.{Words}
use Rattle.value_files.specs.Numbers.{value_of}
use Rattle.value_files.specs.declared.fault.ItemFault.{ItemFault}
use Rattle.job_steps.specs.Steps.{Is, Then}
use Rattle.job_steps.specs.Loads.{Loads}
use Rattle.job_steps.specs.Pipelines.{HasTokens, HasTree, HasKinds, ReadsPipeline, LoadsPipeline}
use Rattle.job_steps.specs.CTexts.{ReadsC, LoadsC}
use Rattle.job_steps.specs.Bindings.{Given, is_among, is_bound, bound_value, word_fault, words_fault, unless_fault, with_given, with_value, values_of, bound, placed}
use Rattle.job_steps.specs.Inputs.{int_of, ReadsArray, TakesKind, TakesInput, TakesInputs, BindsInputs, PlacesInputs}
use Rattle.job_steps.specs.Jobs.{BindsWork, PlacesWork, Prepares, PreparesC, PreparesJob, PreparesPipeline}
use Rattle.job_steps.specs.Works.{Work, Counting, Compiling, Running, Executing, Listing}

-- the step doesn't fail with the status
abbrev pub Never : Status → {A : Type 0} → (Result A Status → Type 0) → Type 0
Never status {A} step = step (Err status) → ⊥

-- a step and the next never fail with a status where neither does
pub then_never : (status : Status) {A B : Type 0} (first : Result A Status → Type 0) (next : A → Result B Status → Type 0)
    → Never status first → ((a : A) → Never status (next a)) → Never status (Then first next)
then_never status first next never others (inl h) = never h
then_never status first next never others (inr h) = others h.0 h.1.1

-- nor does a step that gives
gives_never : (status : Status) {A : Type 0} (a : A) → Never status (Is (Ok a))
gives_never status a h = cc

-- ---- what is given for the inputs

with_given_never : (g : Given) (given : Result (List Given) Status) → Never Words (Is given) → Never Words (Is (with_given g given))
with_given_never g (Ok gs) never h = cc
with_given_never g (Err status) never h = never cc

with_value_never : (name : List ℕ) (k : InputKind) (value : Option (List ℕ)) (given : Result (List Given) Status) → Never Words (Is given) → Never Words (Is (with_value name k value given))
with_value_never name k None given never h = cc
with_value_never name k (Some value) given never h = with_given_never _ given never h

values_never : (words names : List (List ℕ)) (kinds : List InputKind) → Never Words (Is (values_of words names kinds))
values_never words [] kinds h = cc
values_never words (name ∷ names) [] h = cc
values_never words (name ∷ names) (k ∷ kinds) h =
    with_value_never name k (bound_value name words) (values_of words names kinds) (values_never words names kinds) h

-- a word is unknown, or bound twice, or has no fault
tests_never : (among twice : Bool) (unknown again : Status) → unknown ≢ Words → again ≢ Words → if not among then Some unknown else if twice then Some again else None ≢ Some Words
tests_never false twice unknown again some others h = some cc
tests_never true true unknown again some others h = others cc
tests_never true false unknown again some others h = cc

word_fault_never : (names before : List (List ℕ)) (word : List ℕ) → word_fault names before word ≢ Some Words
word_fault_never names before word =
    tests_never (is_among (name_in word) names) (is_bound (name_in word) before) _ _ (λ h. cc) (λ h. cc)

fault_never : (first others : Option Status) → first ≢ Some Words → others ≢ Some Words → option_or first others ≢ Some Words
fault_never None others never rest h = rest h
fault_never (Some status) others never rest h = never h

words_fault_never : (names before words : List (List ℕ)) → words_fault names before words ≢ Some Words
words_fault_never names before [] h = cc
words_fault_never names before (word ∷ words) h =
    fault_never (word_fault names before word) (words_fault names (before ++ word ∷ []) words) (word_fault_never names before word) (words_fault_never names (before ++ word ∷ []) words) h

unless_fault_never : (fault : Option Status) (given : Result (List Given) Status) → fault ≢ Some Words → Never Words (Is given) → Never Words (Is (unless_fault fault given))
unless_fault_never None given some never h = never h
unless_fault_never (Some status) given some never h = some cc

bound_never : (words names : List (List ℕ)) (kinds : List InputKind) → Never Words (Is (bound words names kinds))
bound_never words names kinds =
    unless_fault_never (words_fault names [] words) (values_of words names kinds) (words_fault_never names [] words) (values_never words names kinds)

placed_never : (k : ℕ) (values : List (List ℕ)) (kinds : List InputKind) → Never Words (Is (placed k values kinds))
placed_never k [] [] h = cc
placed_never k [] (x ∷ kinds) h = cc
placed_never k (value ∷ values) [] h = cc
placed_never k (value ∷ values) (x ∷ kinds) h = with_given_never _ (placed (k + 1) values kinds) (placed_never (k + 1) values kinds) h

-- ---- inputs

int_never : (name : InputName) (r : Result ℕ ItemFault) → Never Words (Is (int_of name r))
int_never name (Ok w) h = cc
int_never name (Err f) h = cc

module _ (store : Option Store) where
  kind_never : (name : InputName) (word : List ℕ) (k : InputKind) → Never Words (TakesKind store name word k)
  kind_never name word kind.Int = int_never name (value_of word)
  kind_never name word kind.Array = then_never Words (Loads store word MOST_VALUE_BYTES) (ReadsArray name) (λ h. h) (λ bytes h. h)

  inputs_never : (taken : List Input) (gs : List Given) → Never Words (TakesInputs store taken gs)
  inputs_never taken [] = gives_never Words taken
  inputs_never taken (g ∷ gs) =
      then_never Words (TakesInput store g) (λ i. TakesInputs store (taken ++ i ∷ []) gs) (kind_never g.name g.value g.kind) (λ i. inputs_never (taken ++ i ∷ []) gs)

  given_never : (given : Result (List Given) Status) → Never Words (Is given) → Never Words (Then (Is given) (TakesInputs store []))
  given_never given never = then_never Words (Is given) (TakesInputs store []) never (inputs_never [])

  -- ---- commands

  pipeline_never : (file : List ℕ) → Never Words (LoadsPipeline store file)
  pipeline_never file =
      then_never Words (Loads store file MOST_BYTES) ReadsPipeline (λ h. h) (λ src.
      then_never Words (HasTokens src) (λ toks. Then (HasTree src toks) HasKinds) (λ h. h) (λ toks.
      then_never Words (HasTree src toks) HasKinds (λ h. h) (λ tree h. h)))

  program_never : (file : List ℕ) → Never Words (LoadsC store file)
  program_never file = then_never Words (Loads store file MOST_C_BYTES) ReadsC (λ h. h) (λ src h. h)

  -- work of what a step gives
  work_never : {A : Type 0} (step : Result A Status → Type 0) (of : A → Work) → Never Words step → Never Words (Then step (λ a. Is (Ok (of a))))
  work_never step of never = then_never Words step (λ a. Is (Ok (of a))) never (λ a. gives_never Words (of a))

  bound_work_never : (file : List ℕ) (words : List (List ℕ)) (of : Pipeline → List Input → Work) → Never Words (PreparesPipeline store file words of)
  bound_work_never file words of =
      then_never Words (LoadsPipeline store file) (BindsWork store words of) (pipeline_never file) (λ s.
      work_never (BindsInputs store words s.names s.pipeline.inputs) (of s.pipeline) (given_never (bound words s.names s.pipeline.inputs) (bound_never words s.names s.pipeline.inputs)))

  placed_work_never : (file : List ℕ) (values : List (List ℕ)) (turns : ℕ) → Never Words (PreparesC store file values turns)
  placed_work_never file values turns =
      then_never Words (LoadsC store file) (PlacesWork store values turns) (program_never file) (λ q.
      work_never (PlacesInputs store values q.params) (λ inputs. Executing q inputs turns) (given_never (placed 0 values q.params) (placed_never 0 values q.params)))

  no_job : (words : List (List ℕ)) (job : Option Job) → PreparesJob store words job (Err Words) → job ≡ None
  no_job words None h = refl
  no_job words (Some Check) h = absurd (work_never (LoadsPipeline store (file_of words)) (λ s. Counting s.pipeline) (pipeline_never (file_of words)) h)
  no_job words (Some Compile) h = absurd (work_never (LoadsPipeline store (file_of words)) (λ s. Compiling s.pipeline) (pipeline_never (file_of words)) h)
  no_job words (Some (Run turns rest)) h = absurd (bound_work_never (file_of words) (drop rest words) (λ p inputs. Running p inputs turns) h)
  no_job words (Some (Exec turns rest)) h = absurd (placed_work_never (file_of words) (drop rest words) turns h)
  no_job words (Some (Model pulls rest)) h = absurd (bound_work_never (file_of words) (drop rest words) (λ p inputs. Listing p inputs pulls) h)
  no_job words (Some (Bench seed count)) h = absurd cc

-- steps fail with the status of words only where the words are no command
pub no_command : (store : Option Store) (words : List (List ℕ)) → Prepares store words (Err Words) → job_of words ≡ None
no_command store words h = no_job store words (job_of words) h
