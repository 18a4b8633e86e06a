-- Over a store that tells, the steps of each command come to one thing.
use Rattle.std.proofs.Common.{◌≡◌, ◌≢◌, ◌⊎◌, inl, inr, ℕ, ◌<◌, ◌≤◌, nat_lt, cond, List, [], ◌∷◌, ◌++◌, length, drop, Option, Some, None, IsSomeAnd, Result, Ok, Err, refl, ap, ◌∙◌, subst}
use Rattle.std.proofs.lemmas.Bool.{cond_above, cond_below}
use Rattle.c_faults.specs.Answers as c_texts
use Rattle.c_faults.specs.declared.fault.CFault.TheVariants as c
use Rattle.command_words.specs.Commands.{job_of, file_of}
use Rattle.command_words.specs.declared.jobs.Job.{Job}
use Rattle.command_words.specs.declared.jobs.Job.TheVariants.{Check, Compile, Run, Exec, Model, Bench}
use Rattle.list_denotation.specs.declared.input.Input.{Input}
use Rattle.list_denotation.specs.declared.input.Input.TheVariants as input
use Rattle.list_denotation.specs.declared.input.InputKind.{InputKind}
use Rattle.list_denotation.specs.declared.input.InputKind.TheVariants as kind
use Rattle.list_denotation.specs.Terms.{Pipeline}
use Rattle.loop_ir.specs.Statements.{Routine}
use Rattle.pipe_limits.specs.declared.TheConstants.{MOST_BYTES, MOST_C_BYTES, MOST_VALUE_BYTES}
use Rattle.strm_io.specs.Store.{Store, held}
use Rattle.status_lines.specs.declared.refusals.Refusal.TheVariants.{C}
use Rattle.status_lines.specs.declared.statuses.InputFault.TheVariants.{Values}
use Rattle.status_lines.specs.declared.statuses.InputName.{InputName}
use Rattle.status_lines.specs.declared.statuses.Status.{Status}
use Rattle.status_lines.specs.declared.statuses.Status.TheVariants.{Words, Missing, ReadFault, TooLong, Refused, BadInput}
use Rattle.value_files.specs.Files as values
use Rattle.value_files.specs.Numbers.{value_of}
use Rattle.value_files.specs.declared.fault.ValueFault.TheVariants as value
use Rattle.job_steps.specs.Steps.{Is, Then}
use Rattle.job_steps.specs.Loads.{Loads}
use Rattle.job_steps.specs.Pipelines.{Source, LoadsPipeline, ReadsPipeline}
use Rattle.job_steps.specs.CTexts.{LoadsC, ReadsC}
use Rattle.job_steps.specs.Bindings.{Given, bound, placed}
use Rattle.job_steps.specs.Inputs.{int_of, ReadsArray, TakesKind, TakesInput, TakesInputs, BindsInputs, PlacesInputs}
use Rattle.job_steps.specs.Jobs.{BindsWork, PlacesWork, Prepares, PreparesC, PreparesJob, PreparesPipeline}
use Rattle.job_steps.specs.Works.{Work, Counting, Compiling, Running, Executing, Listing, Benching}
use Rattle.job_steps.specs.Answers.{IsOneUnlessUnread}
use Rattle.job_steps.proofs.OneEnd.{AreOneOrUnread, ComesToOne, IsAnswered, IsUnread, answered_one, is_one, one_by, then_one}
use Rattle.job_steps.proofs.OneReading.{OneLexing, OneTree, reading_one}

-- a C text has one answer, and so has a file of values
abbrev pub OneProgram : Type 0
OneProgram = (src : List ℕ) (a b : c_texts.Answer) → c_texts.ReadsAs src a → c_texts.ReadsAs src b → c_texts.IsSameUnlessRefused a b

abbrev pub OneArray : Type 0
OneArray = (bytes : List ℕ) (a b : values.Answer) → values.ReadsAs bytes a → values.ReadsAs bytes b → values.IsSameUnlessRefused a b

-- ---- files

module _ (store : Store) (name : List ℕ) (limit : ℕ) where
  -- what a store that tells has loaded, by the file that it holds
  abbrev loaded : Option (List ℕ) → Result (List ℕ) Status
  loaded None = Err (Missing name)
  loaded (Some bytes) = cond (nat_lt limit (length bytes)) (Err (TooLong name)) (Ok bytes)

  as_loaded : (file : Option (List ℕ)) → held store name ≡ file → (end : Result (List ℕ) Status) → Loads (Some store) name limit end → (end ≡ loaded file) ⊎ IsUnread end
  as_loaded None is (Ok bytes) h = let e = h.0 in absurd cc
  as_loaded (Some bytes) is (Ok others) h =
      let e = h.0 in
      let same : others ≡ bytes = cc in
      inl (cond_above limit (length bytes) _ _ _ (subst (λ xs. length xs ≤ limit) same h.1) (ap Ok same))
  as_loaded None is (Err (Missing n)) h = inl (ap (λ m. Err (Missing m)) h.0)
  as_loaded (Some bytes) is (Err (Missing n)) h = let e = h.1 in absurd cc
  as_loaded None is (Err (TooLong n)) h = absurd (subst (λ o. IsSomeAnd o (λ bytes. limit < length bytes)) is h.1)
  as_loaded (Some bytes) is (Err (TooLong n)) h =
      let more = subst (λ o. IsSomeAnd o (λ xs. limit < length xs)) is h.1 in
      inl (ap (λ m. Err (TooLong m)) h.0 ∙ cond_below limit (length bytes) _ _ more)
  as_loaded file is (Err (ReadFault n)) h = inr tt
  as_loaded file is (Err status) h = absurd h

  loads_one : ComesToOne (Loads (Some store) name limit)
  loads_one = one_by (Loads (Some store) name limit) (loaded (held store name)) (as_loaded (held store name) refl)

-- ---- C texts

abbrev shown_program : c_texts.Answer → Result Routine Status
shown_program (Ok q) = Ok q
shown_program (Err f) = Err (Refused (C f))

same_program : (a b : c_texts.Answer) → c_texts.IsSameUnlessRefused a b → a ≢ Err c.NoMemory → b ≢ Err c.NoMemory → a ≡ b
same_program (Err c.NoMemory) b h some others = absurd (some refl)
same_program a (Err c.NoMemory) h some others = absurd (others refl)
same_program a b h some others = h

program_answered : (src : List ℕ) (end : Result Routine Status) → ReadsC src end → IsAnswered (c_texts.ReadsAs src) (Err c.NoMemory) shown_program end
program_answered src (Ok q) h = record { answer = Ok q; reads = h; some = λ none. cc; is = refl }
program_answered src (Err (Refused (C c.NoMemory))) h = absurd h
program_answered src (Err (Refused (C f))) h = record { answer = Err f; reads = h; some = λ none. cc; is = refl }
program_answered src (Err status) h = absurd h

-- ---- files of values

abbrev shown_array : InputName → values.Answer → Result Input Status
shown_array name (Ok words) = Ok (input.Array words)
shown_array name (Err f) = Err (BadInput name (Values f))

same_array : (a b : values.Answer) → values.IsSameUnlessRefused a b → a ≢ Err value.NoMemory → b ≢ Err value.NoMemory → a ≡ b
same_array (Err value.NoMemory) b h some others = absurd (some refl)
same_array a (Err value.NoMemory) h some others = absurd (others refl)
same_array a b h some others = h

module _ (name : InputName) (bytes : List ℕ) where
  array_answered : (end : Result Input Status) → ReadsArray name bytes end → IsAnswered (values.ReadsAs bytes) (Err value.NoMemory) (shown_array name) end
  array_answered (Ok (input.Array words)) h = record { answer = Ok words; reads = h; some = λ none. cc; is = refl }
  array_answered (Ok (input.Int word)) h = absurd h
  array_answered (Err (BadInput n (Values value.NoMemory))) h = absurd h
  array_answered (Err (BadInput n (Values f))) h =
      record { answer = Err f; reads = h.1; some = λ none. cc; is = ap (λ m. Err (BadInput m (Values f))) h.0 }
  array_answered (Err status) h = absurd h

-- ---- inputs

module _ (one_array : OneArray) (store : Store) where
  kind_one : (name : InputName) (word : List ℕ) (k : InputKind) → ComesToOne (TakesKind (Some store) name word k)
  kind_one name word kind.Int = is_one (int_of name (value_of word))
  kind_one name word kind.Array =
      then_one (List ℕ) Input (Loads (Some store) word MOST_VALUE_BYTES) (ReadsArray name) (loads_one store word MOST_VALUE_BYTES) (λ bytes.
      answered_one (values.ReadsAs bytes) (Err value.NoMemory) (shown_array name) (ReadsArray name bytes) (λ a b h k. same_array a b (one_array bytes a b h k)) (array_answered name bytes))

  inputs_one : (taken : List Input) (gs : List Given) → ComesToOne (TakesInputs (Some store) taken gs)
  inputs_one taken [] = is_one (Ok taken)
  inputs_one taken (g ∷ gs) =
      then_one Input (List Input) (TakesInput (Some store) g) (λ i. TakesInputs (Some store) (taken ++ i ∷ []) gs) (kind_one g.name g.value g.kind) (λ i.
      inputs_one (taken ++ i ∷ []) gs)

  given_one : (given : Result (List Given) Status) → ComesToOne (Then (Is given) (TakesInputs (Some store) []))
  given_one given = then_one (List Given) (List Input) (Is given) (TakesInputs (Some store) []) (is_one given) (inputs_one [])

-- ---- commands

module _ (one_lexing : OneLexing) (one_tree : OneTree) (one_program : OneProgram) (one_array : OneArray) (store : Store) where
  pipeline_one : (file : List ℕ) → ComesToOne (LoadsPipeline (Some store) file)
  pipeline_one file =
      then_one (List ℕ) Source (Loads (Some store) file MOST_BYTES) ReadsPipeline (loads_one store file MOST_BYTES) (reading_one one_lexing one_tree)

  program_one : (file : List ℕ) → ComesToOne (LoadsC (Some store) file)
  program_one file =
      then_one (List ℕ) Routine (Loads (Some store) file MOST_C_BYTES) ReadsC (loads_one store file MOST_C_BYTES) (λ src.
      answered_one (c_texts.ReadsAs src) (Err c.NoMemory) shown_program (ReadsC src) (λ a b h k. same_program a b (one_program src a b h k)) (program_answered src))

  -- work of what is loaded
  work_one : {A : Type 0} (step : Result A Status → Type 0) (of : A → Work) → ComesToOne step → ComesToOne (Then step (λ a. Is (Ok (of a))))
  work_one {A} step of one = then_one A Work step (λ a. Is (Ok (of a))) one (λ a. is_one (Ok (of a)))

  bound_one : (file : List ℕ) (words : List (List ℕ)) (of : Pipeline → List Input → Work) → ComesToOne (PreparesPipeline (Some store) file words of)
  bound_one file words of =
      then_one Source Work (LoadsPipeline (Some store) file) (BindsWork (Some store) words of) (pipeline_one file) (λ s.
      work_one (BindsInputs (Some store) words s.names s.pipeline.inputs) (of s.pipeline) (given_one one_array store (bound words s.names s.pipeline.inputs)))

  placed_one : (file : List ℕ) (values : List (List ℕ)) (turns : ℕ) → ComesToOne (PreparesC (Some store) file values turns)
  placed_one file values turns =
      then_one Routine Work (LoadsC (Some store) file) (PlacesWork (Some store) values turns) (program_one file) (λ q.
      work_one (PlacesInputs (Some store) values q.params) (λ inputs. Executing q inputs turns) (given_one one_array store (placed 0 values q.params)))

  job_one : (words : List (List ℕ)) (job : Option Job) → ComesToOne (PreparesJob (Some store) words job)
  job_one words None = is_one (Err Words)
  job_one words (Some Check) = work_one (LoadsPipeline (Some store) (file_of words)) (λ s. Counting s.pipeline) (pipeline_one (file_of words))
  job_one words (Some Compile) = work_one (LoadsPipeline (Some store) (file_of words)) (λ s. Compiling s.pipeline) (pipeline_one (file_of words))
  job_one words (Some (Run turns rest)) = bound_one (file_of words) (drop rest words) (λ p inputs. Running p inputs turns)
  job_one words (Some (Exec turns rest)) = placed_one (file_of words) (drop rest words) turns
  job_one words (Some (Model pulls rest)) = bound_one (file_of words) (drop rest words) (λ p inputs. Listing p inputs pulls)
  job_one words (Some (Bench seed count)) = is_one (Ok (Benching seed count))

-- ---- one end, unless a file isn't read

unread_first : (a b : Result Work Status) → IsUnread a → IsOneUnlessUnread a b
unread_first (Err (ReadFault name)) b u = tt
unread_first (Err status) b u = absurd u
unread_first (Ok work) b u = absurd u

unread_second : (a b : Result Work Status) → IsUnread b → IsOneUnlessUnread a b
unread_second (Err (ReadFault name)) b u = tt
unread_second a (Err (ReadFault name)) u = tt
unread_second a (Err status) u = absurd u
unread_second a (Ok work) u = absurd u

same_end : (a : Result Work Status) → IsOneUnlessUnread a a
same_end (Err (ReadFault name)) = tt
same_end end = refl

one_unless_unread : (a b : Result Work Status) → AreOneOrUnread a b → IsOneUnlessUnread a b
one_unless_unread a b (inl e) = subst (λ end. IsOneUnlessUnread a end) e (same_end a)
one_unless_unread a b (inr (inl u)) = unread_first a b u
one_unless_unread a b (inr (inr u)) = unread_second a b u

pub one_end : OneLexing → OneTree → OneProgram → OneArray → (store : Store) (words : List (List ℕ)) (a b : Result Work Status) → Prepares (Some store) words a → Prepares (Some store) words b → IsOneUnlessUnread a b
one_end one_lexing one_tree one_program one_array store words a b h k =
    one_unless_unread a b (job_one one_lexing one_tree one_program one_array store words (job_of words) a b h k)
