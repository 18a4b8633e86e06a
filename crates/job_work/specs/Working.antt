-- What doing work gives.
use Rattle.std.specs.Prelude.{◌≡◌, ℕ, List, Option}
use Rattle.strm_io.specs.Appending.{AppendsPrefix}
use Rattle.strm_io.specs.Counts.{Rose}
use Rattle.strm_io.specs.Writing.{Appends}
use Rattle.status_lines.specs.declared.statuses.Status.{Status}
use Rattle.status_lines.specs.declared.statuses.Status.TheVariants.{Missing, ReadFault, WriteFault, NoMemory}

-- the text that the work ends with was cut off
pub record IsCutOff (ends : Status → List ℕ → Type 0) (out out' : Option (List ℕ)) : Type 0 where
  pub end : Status
  pub text : List ℕ
  pub ends_so : ends end text
  pub appended : AppendsPrefix out out' text

-- the work ends as it may, and its text is written, or cut off where the device failed; or memory was refused, and
-- nothing is written
abbrev pub Does : (Status → List ℕ → Type 0) → Option (List ℕ) → Option (List ℕ) → ℕ → ℕ → Status → Type 0
Does ends out out' faults faults' NoMemory = out' ≡ out
Does ends out out' faults faults' WriteFault = IsCutOff ends out out' × Rose faults faults'
Does ends out out' faults faults' (Missing name) = ⊥
Does ends out out' faults faults' (ReadFault name) = ⊥
Does ends out out' faults faults' status = (text : List ℕ) × (ends status text × Appends out out' text)
