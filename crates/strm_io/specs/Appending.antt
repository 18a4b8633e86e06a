-- What writing a whole text gives.
use Rattle.std.specs.Prelude.{ℕ, ◌≤◌, List, length, take, Option, Result, Ok, Err}
use Rattle.strm_io.specs.Counts.{Rose}
use Rattle.strm_io.specs.Writing.{Appends}
use Rattle.strm_io.specs.declared.appending.WriteFault.{WriteFault}

-- what was written has a prefix of these bytes more, and so many of them
pub record AppendsPrefix (written written' : Option (List ℕ)) (bytes : List ℕ) : Type 0 where
  pub count : ℕ
  pub within : count ≤ length bytes
  pub appended : Appends written written' (take count bytes)

-- all bytes are appended, or a prefix of them where a write failed
abbrev pub PutsAll : Option (List ℕ) → Option (List ℕ) → List ℕ → Result (Unit {0}) WriteFault → Type 0
PutsAll written written' bytes (Ok done) = Appends written written' bytes
PutsAll written written' bytes (Err fault) = AppendsPrefix written written' bytes

-- writing fails only where the faults rose
abbrev pub WriteHasCause : ℕ → ℕ → Result (Unit {0}) WriteFault → Type 0
WriteHasCause faults faults' (Ok done) = Unit {0}
WriteHasCause faults faults' (Err fault) = Rose faults faults'
