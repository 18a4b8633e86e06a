-- What loading a file gives.
use Rattle.std.specs.Prelude.{◌≡◌, ℕ, ◌<◌, ◌≤◌, List, length, Option, Some, None, IsSomeAnd, Result, Ok, Err}
use Rattle.std.specs.declared.vec.Vec.{Vec}
use Rattle.std.specs.declared.alloc.Global.{Global}
use Rattle.strm_io.specs.Counts.{Rose}
use Rattle.strm_io.specs.Devices.{FilesTold}
use Rattle.strm_io.specs.Store.{Store, held}
use Rattle.strm_io.specs.declared.loading.LoadFault.{LoadFault}
use Rattle.strm_io.specs.declared.loading.LoadFault.TheVariants.{Missing, TooLong, Read, NoMemory}

-- the bytes of a file are those that the store holds under the name, at most the limit of them
abbrev pub LoadsFile : Option Store → List ℕ → ℕ → Result (Vec ℕ Global) LoadFault → Type 0
LoadsFile None name limit (Ok bytes) = length bytes.items ≤ limit
LoadsFile (Some store) name limit (Ok bytes) =
    (held store name ≡ Some bytes.items) × (length bytes.items ≤ limit)
LoadsFile None name limit (Err Missing) = Unit {0}
LoadsFile (Some store) name limit (Err Missing) = held store name ≡ None
LoadsFile None name limit (Err TooLong) = Unit {0}
LoadsFile (Some store) name limit (Err TooLong) =
    IsSomeAnd (held store name) (λ bytes. limit < length bytes)
LoadsFile store name limit (Err Read) = Unit {0}
LoadsFile store name limit (Err NoMemory) = Unit {0}

-- a file is missing only where the misses rose, and isn't read only where the faults rose
abbrev pub LoadHasCause : Result (Vec ℕ Global) LoadFault → FilesTold → FilesTold → Type 0
LoadHasCause (Ok bytes) old new = Unit {0}
LoadHasCause (Err Missing) old new = Rose old.misses new.misses
LoadHasCause (Err TooLong) old new = Unit {0}
LoadHasCause (Err Read) old new = Rose old.faults new.faults
LoadHasCause (Err NoMemory) old new = Unit {0}

-- the rest of the open file is what was left of it, at most the limit of it
abbrev pub LoadsRest : Option (List ℕ) → ℕ → Result (Vec ℕ Global) LoadFault → Type 0
LoadsRest None limit (Ok bytes) = length bytes.items ≤ limit
LoadsRest (Some left) limit (Ok bytes) = (left ≡ bytes.items) × (length bytes.items ≤ limit)
LoadsRest left limit (Err Missing) = ⊥
LoadsRest None limit (Err TooLong) = Unit {0}
LoadsRest (Some left) limit (Err TooLong) = limit < length left
LoadsRest left limit (Err Read) = Unit {0}
LoadsRest left limit (Err NoMemory) = Unit {0}
