-- The fault that there may be before inputs are taken, and how it is told.
use Rattle.std.specs.Prelude.{◌≡◌, ◌⊎◌, ℕ, List, [], ◌∷◌, Option, Some, None, Result, Ok, Err, if◌then◌else◌, not}
use Rattle.job_steps.specs.Bindings.{is_among, is_bound}
use Rattle.strm_io.specs.Devices.{FilesTold}
use Rattle.job_steps.specs.Loads.{HasFileCause}
use Rattle.status_lines.specs.declared.statuses.InputFault.{InputFault}
use Rattle.status_lines.specs.declared.statuses.InputFault.TheVariants.{Unknown, Twice, Absent}
use Rattle.status_lines.specs.declared.statuses.InputName.TheVariants.{Named}
use Rattle.status_lines.specs.declared.statuses.Status.{Status}
use Rattle.status_lines.specs.declared.statuses.Status.TheVariants.{BadInput, NoMemory}

-- why a name is no input's that is bound for the first time, behind these words
abbrev pub name_fault : List (List ℕ) → List (List ℕ) → List ℕ → Option InputFault
name_fault names before name =
    if not (is_among name names) then Some Unknown
    else if is_bound name before then Some Twice
    else None

-- the first input that none of the words binds
abbrev pub absent_fault : List (List ℕ) → List (List ℕ) → Option Status
absent_fault words [] = None
absent_fault words (name ∷ names) = if is_bound name words then absent_fault words names else Some (BadInput (Named name) Absent)

-- the fault is told, or memory was refused
abbrev pub Tells : Option Status → Result (Unit {0}) Status → Type 0
Tells fault (Ok none) = fault ≡ None
Tells fault (Err status) = (status ≡ NoMemory) ⊎ (fault ≡ Some status)

-- the status isn't for a file
abbrev pub IsForNoFile : Status → Type 0
IsForNoFile status = (old new : FilesTold) → HasFileCause status old new
