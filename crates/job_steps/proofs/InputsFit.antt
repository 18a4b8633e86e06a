-- The inputs of work are those that its program declares: as many, of the same kinds, in the same order.
use Rattle.std.proofs.Common.{◌≡◌, ◌↔◌, inl, inr, ℕ, ◌+◌, List, [], ◌∷◌, ◌++◌, append-nil, append_assoc, length, map, drop, Option, Some, None, Result, Ok, Err, refl, sym, ap, ◌∙◌, subst, arith}
use Rattle.std.proofs.lemmas.List.{length-map}
use Rattle.command_words.specs.Commands.{job_of, file_of}
use Rattle.command_words.specs.declared.jobs.Job.{Job}
use Rattle.command_words.specs.declared.jobs.Job.TheVariants.{Check, Compile, Run, Exec, Model, Bench}
use Rattle.kind_rules.specs.Checking.{IsTyped}
use Rattle.kind_rules.specs.Inputs.{input_kind}
use Rattle.kind_rules.specs.StandsFor.{StandsFor}
use Rattle.list_denotation.specs.declared.input.Input.{Input}
use Rattle.list_denotation.specs.declared.input.Input.TheVariants as input
use Rattle.list_denotation.specs.declared.input.InputKind.{InputKind}
use Rattle.list_denotation.specs.declared.input.InputKind.TheVariants as kind
use Rattle.list_denotation.specs.Inputs.{IsInput, Fits}
use Rattle.list_denotation.specs.Terms.{Pipeline}
use Rattle.pipe_limits.specs.declared.TheConstants.{MOST_BYTES}
use Rattle.pipe_tree.specs.Trees.{Declaration, Text}
use Rattle.strm_io.specs.Store.{Store}
use Rattle.status_lines.specs.declared.statuses.InputName.{InputName}
use Rattle.status_lines.specs.declared.statuses.Status.{Status}
use Rattle.value_files.specs.Numbers.{value_of}
use Rattle.value_files.specs.declared.fault.ItemFault.{ItemFault}
use Rattle.job_steps.specs.Steps.{Is, Then}
use Rattle.job_steps.specs.Pipelines.{Source, HasTokens, HasTree, HasKinds, ReadsPipeline, LoadsPipeline}
use Rattle.job_steps.specs.CTexts.{LoadsC}
use Rattle.job_steps.specs.Loads.{Loads}
use Rattle.job_steps.specs.Bindings.{Given, bound_value, words_fault, unless_fault, with_given, with_value, values_of, bound, placed}
use Rattle.job_steps.specs.Inputs.{int_of, ReadsArray, TakesKind, TakesInputs, BindsInputs, PlacesInputs}
use Rattle.job_steps.specs.Jobs.{BindsWork, PlacesWork, Prepares, PreparesC, PreparesJob, PreparesPipeline}
use Rattle.job_steps.specs.Works.{Work, Counting, Compiling, Running, Executing, Listing, Benching}
use Rattle.job_steps.proofs.ValueWords.{value_word, passed_words}

-- where a step and the next give something, the first gave something
passed : {A B : Type 0} (first : Result A Status → Type 0) (next : A → Result B Status → Type 0) (b : B) → Then first next (Ok b) → (a : A) × (first (Ok a) × next a (Ok b))
passed first next b (inl h) = absurd h
passed first next b (inr h) = h

-- ---- one input

int_fits : (name : InputName) (value : List ℕ) (r : Result ℕ ItemFault) → value_of value ≡ r → (i : Input) → Ok i ≡ int_of name r → IsInput kind.Int i
int_fits name value (Ok w) is i h = let e : input.Int w ≡ i = cc in subst (IsInput kind.Int) e (value_word value w is)
int_fits name value (Err f) is i h = absurd cc

array_fits : (name : InputName) (bytes : List ℕ) (i : Input) → ReadsArray name bytes (Ok i) → IsInput kind.Array i
array_fits name bytes (input.Array words) h = (passed_words bytes words h.rest h.passes, h.few)
array_fits name bytes (input.Int w) h = absurd h

input_fits : (store : Option Store) (name : InputName) (value : List ℕ) (k : InputKind) (i : Input) → TakesKind store name value k (Ok i) → IsInput k i
input_fits store name value kind.Int i h = int_fits name value (value_of value) refl i h
input_fits store name value kind.Array i (inl h) = absurd h
input_fits store name value kind.Array i (inr h) = array_fits name h.0 i h.1.1

-- ---- all inputs

abbrev kinds_given : List Given → List InputKind
kinds_given = map (λ (g : Given). g.kind)

-- the inputs behind those that were taken before fit
record FitsBehind (taken inputs : List Input) (gs : List Given) : Type 0 where
  pub rest : List Input
  pub parts : inputs ≡ taken ++ rest
  pub fits : Fits rest (kinds_given gs)

taken_fit : (store : Option Store) (taken : List Input) (gs : List Given) (inputs : List Input) → TakesInputs store taken gs (Ok inputs) → FitsBehind taken inputs gs
taken_fit store taken [] inputs h = let e : inputs ≡ taken = cc in record { rest = []; parts = e ∙ sym (append-nil taken); fits = tt }
taken_fit store taken (g ∷ gs) inputs (inl h) = absurd h
taken_fit store taken (g ∷ gs) inputs (inr h) =
    let others = taken_fit store (taken ++ h.0 ∷ []) gs inputs h.1.1 in
    record {
      rest = h.0 ∷ others.rest;
      parts = others.parts ∙ append_assoc taken (h.0 ∷ []) others.rest;
      fits = (input_fits store g.name g.value g.kind h.0 h.1.0, others.fits);
    }

-- what is given are inputs of these kinds, or there is a fault
abbrev AreOf : List InputKind → Result (List Given) Status → Type 0
AreOf kinds (Ok gs) = kinds_given gs ≡ kinds
AreOf kinds (Err status) = Unit {0}

given_fit : (store : Option Store) (given : Result (List Given) Status) (kinds : List InputKind) → AreOf kinds given → (inputs : List Input) → Then (Is given) (TakesInputs store []) (Ok inputs) → Fits inputs kinds
given_fit store given kinds are inputs h =
    let k = passed (Is given) (TakesInputs store []) inputs h in
    let behind = taken_fit store [] k.0 inputs k.1.1 in
    let same : kinds_given k.0 ≡ kinds = subst (AreOf kinds) (sym k.1.0) are in
    subst (Fits inputs) same (subst (λ is. Fits is (kinds_given k.0)) (sym behind.parts) behind.fits)

with_given_are : (g : Given) (given : Result (List Given) Status) (kinds : List InputKind) → AreOf kinds given → AreOf (g.kind ∷ kinds) (with_given g given)
with_given_are g (Ok gs) kinds h = ap (λ ks. g.kind ∷ ks) h
with_given_are g (Err status) kinds h = tt

with_value_are : (name : List ℕ) (k : InputKind) (value : Option (List ℕ)) (given : Result (List Given) Status) (kinds : List InputKind) → AreOf kinds given → AreOf (k ∷ kinds) (with_value name k value given)
with_value_are name k None given kinds h = tt
with_value_are name k (Some value) given kinds h = with_given_are _ given kinds h

values_are : (words names : List (List ℕ)) (kinds : List InputKind) → length names ≡ length kinds → AreOf kinds (values_of words names kinds)
values_are words [] [] same = refl
values_are words [] (k ∷ kinds) same = absurd (omega arith)
values_are words (name ∷ names) [] same = absurd (omega arith)
values_are words (name ∷ names) (k ∷ kinds) same =
    let rest : length names ≡ length kinds = omega arith in
    with_value_are name k (bound_value name words) (values_of words names kinds) kinds (values_are words names kinds rest)

unless_fault_are : (fault : Option Status) (given : Result (List Given) Status) (kinds : List InputKind) → AreOf kinds given → AreOf kinds (unless_fault fault given)
unless_fault_are None given kinds h = h
unless_fault_are (Some status) given kinds h = tt

bound_are : (words names : List (List ℕ)) (kinds : List InputKind) → length names ≡ length kinds → AreOf kinds (bound words names kinds)
bound_are words names kinds same = unless_fault_are (words_fault names [] words) (values_of words names kinds) kinds (values_are words names kinds same)

placed_are : (k : ℕ) (values : List (List ℕ)) (kinds : List InputKind) → AreOf kinds (placed k values kinds)
placed_are k [] [] = refl
placed_are k [] (x ∷ kinds) = tt
placed_are k (value ∷ values) [] = tt
placed_are k (value ∷ values) (x ∷ kinds) = with_given_are _ (placed (k + 1) values kinds) kinds (placed_are (k + 1) values kinds)

-- ---- work

abbrev pub StandsWhereTyped : Type 0
StandsWhereTyped = (t : Text) (p : Pipeline) → IsTyped t p ↔ StandsFor t p

-- the inputs of the work fit, where it has some
abbrev pub InputsFit : Work → Type 0
InputsFit (Counting p) = Unit {0}
InputsFit (Compiling p) = Unit {0}
InputsFit (Running p inputs n) = Fits inputs p.inputs
InputsFit (Executing q inputs n) = Fits inputs q.params
InputsFit (Listing p inputs n) = Fits inputs p.inputs
InputsFit (Benching seed count) = Unit {0}

module _ (stands : StandsWhereTyped) (store : Option Store) where
  -- each input of a pipeline that is read has a name
  read_names : (src : List ℕ) (s : Source) → ReadsPipeline src (Ok s) → length s.names ≡ length s.pipeline.inputs
  read_names src s h =
      let lexed = passed (HasTokens src) (λ toks. Then (HasTree src toks) HasKinds) s h in
      let parsed = passed (HasTree src lexed.0) HasKinds s lexed.1.1 in
      let tree = parsed.0 in
      let kinds = (stands tree s.pipeline).0 parsed.1.1.0 in
      ap (λ (names : List (List ℕ)). length names) parsed.1.1.1
      ∙ length-map tree.inputs (λ (d : Declaration). d.name.text)
      ∙ sym (length-map tree.inputs (λ (d : Declaration). input_kind d.kind))
      ∙ ap (λ (ks : List InputKind). length ks) (sym kinds.inputs)

  loaded_names : (file : List ℕ) (s : Source) → LoadsPipeline store file (Ok s) → length s.names ≡ length s.pipeline.inputs
  loaded_names file s h =
      let bytes = passed (Loads store file MOST_BYTES) ReadsPipeline s h in read_names bytes.0 s bytes.1.1

  -- work of what a step gives
  work_fits : {A : Type 0} (step : Result A Status → Type 0) (of : A → Work) → ((a : A) → step (Ok a) → InputsFit (of a)) → (work : Work) → Then step (λ a. Is (Ok (of a))) (Ok work) → InputsFit work
  work_fits step of fit work h =
      let k = passed step (λ a. Is (Ok (of a))) work h in
      let e = k.1.1 in
      let same : of k.0 ≡ work = cc in
      subst InputsFit same (fit k.0 k.1.0)

  pipeline_fits : (file : List ℕ) (words : List (List ℕ)) (of : Pipeline → List Input → Work) → ((p : Pipeline) (inputs : List Input) → Fits inputs p.inputs → InputsFit (of p inputs))
      → (work : Work) → PreparesPipeline store file words of (Ok work) → InputsFit work
  pipeline_fits file words of fit work h =
      let loaded = passed (LoadsPipeline store file) (BindsWork store words of) work h in
      let s = loaded.0 in
      let kinds = s.pipeline.inputs in
      work_fits (BindsInputs store words s.names kinds) (of s.pipeline) (λ inputs binds.
      fit s.pipeline inputs (given_fit store (bound words s.names kinds) kinds (bound_are words s.names kinds (loaded_names file s loaded.1.0)) inputs binds)) work loaded.1.1

  program_fits : (file : List ℕ) (values : List (List ℕ)) (turns : ℕ) (work : Work) → PreparesC store file values turns (Ok work) → InputsFit work
  program_fits file values turns work h =
      let loaded = passed (LoadsC store file) (PlacesWork store values turns) work h in
      let q = loaded.0 in
      work_fits (PlacesInputs store values q.params) (λ inputs. Executing q inputs turns) (λ inputs places.
      given_fit store (placed 0 values q.params) q.params (placed_are 0 values q.params) inputs places) work loaded.1.1

  job_fits : (words : List (List ℕ)) (job : Option Job) (work : Work) → PreparesJob store words job (Ok work) → InputsFit work
  job_fits words None work h = absurd cc
  job_fits words (Some Check) work h = work_fits (LoadsPipeline store (file_of words)) (λ s. Counting s.pipeline) (λ s loads. tt) work h
  job_fits words (Some Compile) work h = work_fits (LoadsPipeline store (file_of words)) (λ s. Compiling s.pipeline) (λ s loads. tt) work h
  job_fits words (Some (Run turns rest)) work h = pipeline_fits (file_of words) (drop rest words) (λ p inputs. Running p inputs turns) (λ p inputs fits. fits) work h
  job_fits words (Some (Exec turns rest)) work h = program_fits (file_of words) (drop rest words) turns work h
  job_fits words (Some (Model pulls rest)) work h = pipeline_fits (file_of words) (drop rest words) (λ p inputs. Listing p inputs pulls) (λ p inputs fits. fits) work h
  job_fits words (Some (Bench seed count)) work h = let same : Benching seed count ≡ work = cc in subst InputsFit same tt

pub inputs_fit : StandsWhereTyped → (store : Option Store) (words : List (List ℕ)) (work : Work) → Prepares store words (Ok work) → InputsFit work
inputs_fit stands store words work h = job_fits stands store words (job_of words) work h
