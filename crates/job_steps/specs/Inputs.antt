-- What comes of taking the inputs: each int is a number, and each array the values of a file.
use Rattle.std.specs.Prelude.{◌≡◌, ℕ, List, [], ◌∷◌, ◌++◌, Option, Result, Ok, Err}
use Rattle.list_denotation.specs.declared.input.Input.{Input}
use Rattle.list_denotation.specs.declared.input.Input.TheVariants as input
use Rattle.list_denotation.specs.declared.input.InputKind.{InputKind}
use Rattle.list_denotation.specs.declared.input.InputKind.TheVariants as kind
use Rattle.pipe_limits.specs.declared.TheConstants.{MOST_VALUE_BYTES}
use Rattle.strm_io.specs.Store.{Store}
use Rattle.status_lines.specs.declared.statuses.InputFault.TheVariants.{NotANumber, Values}
use Rattle.status_lines.specs.declared.statuses.InputName.{InputName}
use Rattle.status_lines.specs.declared.statuses.Status.{Status}
use Rattle.status_lines.specs.declared.statuses.Status.TheVariants.{BadInput}
use Rattle.value_files.specs.Files.{ReadsAs}
use Rattle.value_files.specs.Numbers.{value_of}
use Rattle.value_files.specs.declared.fault.ItemFault.{ItemFault}
use Rattle.value_files.specs.declared.fault.ValueFault.TheVariants as fault
use Rattle.job_steps.specs.Steps.{Is, Then}
use Rattle.job_steps.specs.Loads.{Loads}
use Rattle.job_steps.specs.Bindings.{Given, bound, placed}

-- an int, if what is given for it is a number
abbrev pub int_of : InputName → Result ℕ ItemFault → Result Input Status
int_of name (Ok word) = Ok (input.Int word)
int_of name (Err f) = Err (BadInput name NotANumber)

-- an array of the file's values, or the first fault of the file
abbrev pub ReadsArray : InputName → List ℕ → Result Input Status → Type 0
ReadsArray name bytes (Ok (input.Array words)) = ReadsAs bytes (Ok words)
ReadsArray name bytes (Ok (input.Int word)) = ⊥
ReadsArray name bytes (Err (BadInput n (Values fault.NoMemory))) = ⊥
ReadsArray name bytes (Err (BadInput n (Values f))) = (n ≡ name) × ReadsAs bytes (Err f)
ReadsArray name bytes (Err status) = ⊥

abbrev pub TakesKind : Option Store → InputName → List ℕ → InputKind → Result Input Status → Type 0
TakesKind store name value kind.Int = Is (int_of name (value_of value))
TakesKind store name value kind.Array = Then (Loads store value MOST_VALUE_BYTES) (ReadsArray name)

-- one input
abbrev pub TakesInput : Option Store → Given → Result Input Status → Type 0
TakesInput store g = TakesKind store g.name g.value g.kind

-- inputs, one behind another, behind those that were taken before
abbrev pub TakesInputs : Option Store → List Input → List Given → Result (List Input) Status → Type 0
TakesInputs store taken [] = Is (Ok taken)
TakesInputs store taken (g ∷ gs) = Then (TakesInput store g) (λ i. TakesInputs store (taken ++ i ∷ []) gs)

-- the inputs that words bind
abbrev pub BindsInputs : Option Store → List (List ℕ) → List (List ℕ) → List InputKind → Result (List Input) Status → Type 0
BindsInputs store words names kinds = Then (Is (bound words names kinds)) (TakesInputs store [])

-- the inputs that values are given for in order
abbrev pub PlacesInputs : Option Store → List (List ℕ) → List InputKind → Result (List Input) Status → Type 0
PlacesInputs store values kinds = Then (Is (placed 0 values kinds)) (TakesInputs store [])
