-- What the calls of `Files` answer. A store and what is left to be read are options: where one is
-- `None`, the device doesn't tell it, and nothing is said of it.
use Rattle.std.specs.Prelude.{◌≡◌, ℕ, ◌<◌, ◌≤◌, List, [], length, take, drop, Option, Some, None, IsSome}
use Rattle.strm_io.specs.Counts.{Rose, raised}
use Rattle.strm_io.specs.Devices.{FilesTold}
use Rattle.strm_io.specs.Store.{Store, held}
use Rattle.strm_io.specs.declared.reading.Opened.{Opened}
use Rattle.strm_io.specs.declared.reading.Opened.TheVariants.{Found, Missing, Failed}
use Rattle.strm_io.specs.declared.reading.Piece.{Piece}
use Rattle.strm_io.specs.declared.reading.Piece.TheVariants.{Got, AtEnd, Failed as Broken}

-- nothing is left to read, or no file is open
abbrev pub IsNothingLeft : Option (List ℕ) → Type 0
IsNothingLeft None = Unit {0}
IsNothingLeft (Some left) = left ≡ []

-- what is left after an opening: all bytes of the file of this name, or nothing where there is none
abbrev pub OpensFile : Option Store → List ℕ → Option (List ℕ) → Opened → Type 0
OpensFile None name left Found = Unit {0}
OpensFile (Some store) name left Found = IsSome left × (left ≡ held store name)
OpensFile None name left Missing = IsNothingLeft left
OpensFile (Some store) name left Missing = (held store name ≡ None) × IsNothingLeft left
OpensFile store name left Failed = IsNothingLeft left

-- an opening misses a file only where the misses rose, and fails only where the faults rose
abbrev pub OpeningHasCause : Opened → FilesTold → FilesTold → Type 0
OpeningHasCause Found old new = Unit {0}
OpeningHasCause Missing old new = Rose old.misses new.misses
OpeningHasCause Failed old new = Rose old.faults new.faults

-- these n bytes were a prefix of what was left, and are taken from it
abbrev pub TakesPrefix : Option (List ℕ) → Option (List ℕ) → ℕ → List ℕ → Type 0
TakesPrefix None left' n bytes = Unit {0}
TakesPrefix (Some left) left' n bytes =
    (n ≤ length left) × (bytes ≡ take n left) × (left' ≡ Some (drop n left))

-- what a piece brings into the buffer and leaves to be read
abbrev pub BringsPiece : Option (List ℕ) → Option (List ℕ) → List ℕ → Piece → Type 0
BringsPiece left left' buffer (Got n) =
    (0 < n) × (n ≤ length buffer) × TakesPrefix left left' n (take n buffer)
BringsPiece left left' buffer AtEnd = IsNothingLeft left × (left' ≡ left)
BringsPiece left left' buffer Broken = IsNothingLeft left'

-- a piece fails only where the faults rose
abbrev pub PieceHasCause : Piece → FilesTold → FilesTold → Type 0
PieceHasCause (Got n) old new = Unit {0}
PieceHasCause AtEnd old new = Unit {0}
PieceHasCause Broken old new = Rose old.faults new.faults

-- an opening raises the count of its own answer by one, and no other
abbrev pub CountsOpening : ℕ → ℕ → ℕ → ℕ → Opened → Type 0
CountsOpening misses misses' faults faults' Found = (misses' ≡ misses) × (faults' ≡ faults)
CountsOpening misses misses' faults faults' Missing = (misses' ≡ raised misses) × (faults' ≡ faults)
CountsOpening misses misses' faults faults' Failed = (misses' ≡ misses) × (faults' ≡ raised faults)
