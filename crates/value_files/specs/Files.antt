-- The values of a file, or the first item that has none, with its place.
use Rattle.std.specs.Prelude.{◌≡◌, ℕ, ◌<◌, ◌≤◌, List, [], ◌∷◌, ◌++◌, length, drop, Result, Ok, Err}
use Rattle.value_files.specs.Numbers.{value_of}
use Rattle.value_files.specs.Items.{IsItem, IsBlank}
use Rattle.pipe_limits.specs.declared.TheConstants.{MOST_ITEMS}
use Rattle.value_files.specs.declared.fault.ItemFault.TheVariants as item_fault
use Rattle.value_files.specs.declared.fault.ValueFault.{ValueFault}
use Rattle.value_files.specs.declared.fault.ValueFault.TheVariants as fault

-- the bytes begin with an item that stands for this word, and something holds of what follows it
pub record BeginsWith (word : ℕ) (holds : List ℕ → Type 0) (bytes : List ℕ) : Type 0 where
  pub item : List ℕ
  pub rest : List ℕ
  pub is_item : IsItem bytes item rest
  pub value : value_of item ≡ Ok word
  pub goes_on : holds rest

-- the bytes are items that stand for these words, one behind another, and then this rest
abbrev pub Passes : List ℕ → List ℕ → List ℕ → Type 0
Passes bytes [] end = bytes ≡ end
Passes bytes (word ∷ words) end = BeginsWith word (λ rest. Passes rest words end) bytes

-- the bytes are blanks and items, and these are the words of the items
pub record HoldsValues (bytes words : List ℕ) : Type 0 where
  pub rest : List ℕ
  pub passes : Passes bytes words rest
  pub blank : IsBlank rest
  pub few : length words ≤ MOST_ITEMS

-- behind so many items that stand for words, at this place, is an item, and something holds of their number and of it
pub record StopsAt (bytes : List ℕ) (place : ℕ) (holds : ℕ → List ℕ → Type 0) : Type 0 where
  pub words : List ℕ
  pub left : List ℕ
  pub item : List ℕ
  pub rest : List ℕ
  pub passes : Passes bytes words left
  pub is_item : IsItem left item rest
  pub place_is : drop place bytes ≡ item ++ rest
  pub stops : holds (length words) item

-- one of the items that a file may have isn't a number
abbrev pub IsBad : ℕ → List ℕ → Type 0
IsBad behind item = (behind < MOST_ITEMS) × (value_of item ≡ Err item_fault.Bad)

-- one of the items that a file may have is a number out of range
abbrev pub IsOutOfRange : ℕ → List ℕ → Type 0
IsOutOfRange behind item = (behind < MOST_ITEMS) × (value_of item ≡ Err item_fault.Range)

-- an item stands behind as many as a file may have
abbrev pub IsOneTooMany : ℕ → List ℕ → Type 0
IsOneTooMany behind item = behind ≡ MOST_ITEMS

-- words or a fault
abbrev pub Answer : Type 0
Answer = Result (List ℕ) ValueFault

-- what a file is answered with: the words of its items, or the fault of the first item that has one, at its place
abbrev pub ReadsAs : List ℕ → Answer → Type 0
ReadsAs bytes (Ok words) = HoldsValues bytes words
ReadsAs bytes (Err (fault.Bad place)) = StopsAt bytes place IsBad
ReadsAs bytes (Err (fault.Range place)) = StopsAt bytes place IsOutOfRange
ReadsAs bytes (Err (fault.TooMany place)) = StopsAt bytes place IsOneTooMany
ReadsAs bytes (Err fault.NoMemory) = Unit {0}

-- the answers are one, or memory was refused in one of them
abbrev pub IsSameUnlessRefused : Answer → Answer → Type 0
IsSameUnlessRefused (Err fault.NoMemory) other = Unit {0}
IsSameUnlessRefused answer (Err fault.NoMemory) = Unit {0}
IsSameUnlessRefused answer other = answer ≡ other
