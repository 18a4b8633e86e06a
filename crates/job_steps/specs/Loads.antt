-- What comes of loading a file.
use Rattle.std.specs.Prelude.{◌≡◌, ℕ, ◌<◌, ◌≤◌, List, length, Option, Some, None, Result, Ok, Err, IsSomeAnd}
use Rattle.strm_io.specs.Counts.{Rose}
use Rattle.strm_io.specs.Devices.{FilesTold}
use Rattle.strm_io.specs.Store.{Store, held}
use Rattle.status_lines.specs.declared.statuses.Status.{Status}
use Rattle.status_lines.specs.declared.statuses.Status.TheVariants.{Missing, ReadFault, TooLong, WriteFault}

-- the store holds just this under the name, where it tells
abbrev pub Holds : Option Store → List ℕ → Option (List ℕ) → Type 0
Holds None name file = Unit {0}
Holds (Some store) name file = held store name ≡ file

-- the file of this name has more bytes than the limit, where the store tells
abbrev pub HoldsMore : Option Store → List ℕ → ℕ → Type 0
HoldsMore None name limit = Unit {0}
HoldsMore (Some store) name limit = IsSomeAnd (held store name) (λ bytes. limit < length bytes)

-- the bytes of the file, at most so many; any loading may fail for the device
abbrev pub Loads : Option Store → List ℕ → ℕ → Result (List ℕ) Status → Type 0
Loads store name limit (Ok bytes) = Holds store name (Some bytes) × (length bytes ≤ limit)
Loads store name limit (Err (Missing n)) = (n ≡ name) × Holds store name None
Loads store name limit (Err (TooLong n)) = (n ≡ name) × HoldsMore store name limit
Loads store name limit (Err (ReadFault n)) = n ≡ name
Loads store name limit (Err status) = ⊥

-- a step that reads files fails for them only where their count rose, and never for what is written
abbrev pub HasFileCause : Status → FilesTold → FilesTold → Type 0
HasFileCause (Missing name) old new = Rose old.misses new.misses
HasFileCause (ReadFault name) old new = Rose old.faults new.faults
HasFileCause WriteFault old new = ⊥
HasFileCause status old new = Unit {0}

abbrev pub FailsWithCause : {A : Type 0} → Result A Status → FilesTold → FilesTold → Type 0
FailsWithCause (Ok x) old new = Unit {0}
FailsWithCause (Err status) old new = HasFileCause status old new
