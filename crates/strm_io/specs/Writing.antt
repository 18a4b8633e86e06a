-- What a call of `Sink` answers. What was written is an option: where it is `None`, the device
-- doesn't tell it, and nothing is said of it.
use Rattle.std.specs.Prelude.{◌≡◌, ℕ, ◌<◌, ◌≤◌, List, ◌++◌, length, take, Option, Some, None}
use Rattle.strm_io.specs.Counts.{Rose, raised}
use Rattle.strm_io.specs.declared.writing.Put.{Put}
use Rattle.strm_io.specs.declared.writing.Put.TheVariants.{Took, Failed}

-- what was written has these bytes more
abbrev pub Appends : Option (List ℕ) → Option (List ℕ) → List ℕ → Type 0
Appends None written' bytes = Unit {0}
Appends (Some written) written' bytes = written' ≡ Some (written ++ bytes)

-- a put takes a prefix of the piece, one byte at least where it has any, or leaves all as it was
abbrev pub PutsPiece : Option (List ℕ) → Option (List ℕ) → List ℕ → Put → Type 0
PutsPiece written written' piece (Took n) =
    (n ≤ length piece) × (0 < length piece → 0 < n) × Appends written written' (take n piece)
PutsPiece written written' piece Failed = written' ≡ written

-- a put fails only where the faults rose
abbrev pub PutHasCause : ℕ → ℕ → Put → Type 0
PutHasCause faults faults' (Took n) = Unit {0}
PutHasCause faults faults' Failed = Rose faults faults'

-- a put raises the faults by one where it fails, and else leaves them
abbrev pub CountsPut : ℕ → ℕ → Put → Type 0
CountsPut faults faults' (Took n) = faults' ≡ faults
CountsPut faults faults' Failed = faults' ≡ raised faults
