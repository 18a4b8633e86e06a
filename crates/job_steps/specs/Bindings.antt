-- Which values are given for the inputs of a program: those of words NAME=VALUE, or values in order.
use Rattle.std.specs.Prelude.{ℕ, ◌+◌, List, [], ◌∷◌, ◌++◌, Bool, true, false, not, Option, Some, None, is_some, Result, Ok, Err, if◌then◌else◌}
use Rattle.std.specs.Option.{option_or}
use Rattle.std.specs.Str.{bytes_eq}
use Rattle.command_words.specs.Bindings.{name_in, value_in}
use Rattle.list_denotation.specs.declared.input.InputKind.{InputKind}
use Rattle.status_lines.specs.declared.statuses.InputFault.TheVariants.{Unknown, Twice, Absent}
use Rattle.status_lines.specs.declared.statuses.InputName.{InputName}
use Rattle.status_lines.specs.declared.statuses.InputName.TheVariants.{Named, Position}
use Rattle.status_lines.specs.declared.statuses.Status.{Status}
use Rattle.status_lines.specs.declared.statuses.Status.TheVariants.{BadInput}

-- an input that is declared, with the value that is given for it
pub record Given : Type 0 where
  pub name : InputName
  pub kind : InputKind
  pub value : List ℕ

-- ---- words

abbrev pub is_among : List ℕ → List (List ℕ) → Bool
is_among name [] = false
is_among name (other ∷ names) = if bytes_eq other name then true else is_among name names

-- the value of the first of the words that binds the name
abbrev pub bound_value : List ℕ → List (List ℕ) → Option (List ℕ)
bound_value name [] = None
bound_value name (word ∷ words) = if bytes_eq (name_in word) name then Some (value_in word) else bound_value name words

abbrev pub is_bound : List ℕ → List (List ℕ) → Bool
is_bound name words = is_some (bound_value name words)

-- what is wrong with a word: its name is none of the inputs', or a word before it binds it
abbrev pub word_fault : List (List ℕ) → List (List ℕ) → List ℕ → Option Status
word_fault names before word =
    if not (is_among (name_in word) names) then Some (BadInput (Named (name_in word)) Unknown)
    else if is_bound (name_in word) before then Some (BadInput (Named (name_in word)) Twice)
    else None

-- the first of the words that is wrong, behind these words
abbrev pub words_fault : List (List ℕ) → List (List ℕ) → List (List ℕ) → Option Status
words_fault names before [] = None
words_fault names before (word ∷ words) =
    option_or (word_fault names before word) (words_fault names (before ++ word ∷ []) words)

-- what is given, unless there is a fault
abbrev pub unless_fault : Option Status → Result (List Given) Status → Result (List Given) Status
unless_fault None given = given
unless_fault (Some status) given = Err status

-- one more input in front of the others
abbrev pub with_given : Given → Result (List Given) Status → Result (List Given) Status
with_given g (Ok gs) = Ok (g ∷ gs)
with_given g (Err status) = Err status

-- an input in front of the others: absent where no value is given for it
abbrev pub with_value : List ℕ → InputKind → Option (List ℕ) → Result (List Given) Status → Result (List Given) Status
with_value name kind None others = Err (BadInput (Named name) Absent)
with_value name kind (Some value) others = with_given (record { name = Named name; kind = kind; value = value }) others

-- the inputs with the values that words bind them to, or the first that none binds
abbrev pub values_of : List (List ℕ) → List (List ℕ) → List InputKind → Result (List Given) Status
values_of words (name ∷ names) (kind ∷ kinds) = with_value name kind (bound_value name words) (values_of words names kinds)
values_of words names kinds = Ok []

-- the inputs with their values, unless a word or then an input has a fault
abbrev pub bound : List (List ℕ) → List (List ℕ) → List InputKind → Result (List Given) Status
bound words names kinds = unless_fault (words_fault names [] words) (values_of words names kinds)

-- ---- values in order

-- the inputs from this position on with their values, or the first that has none, or the first value that has no input
abbrev pub placed : ℕ → List (List ℕ) → List InputKind → Result (List Given) Status
placed k [] [] = Ok []
placed k [] (kind ∷ kinds) = Err (BadInput (Position k) Absent)
placed k (value ∷ values) [] = Err (BadInput (Position k) Unknown)
placed k (value ∷ values) (kind ∷ kinds) =
    with_given (record { name = Position k; kind = kind; value = value }) (placed (k + 1) values kinds)
