-- What the program answers: each status, and what was written.
use Rattle.std.specs.Prelude.{◌≡◌, ◌≤◌, ◌⊎◌, ℕ, List, Option, Result, Ok, Err}
use Rattle.strm_io.specs.Appending.{AppendsPrefix}
use Rattle.strm_io.specs.Counts.{Rose}
use Rattle.strm_io.specs.Devices.{FilesTold, LeavesFiles}
use Rattle.strm_io.specs.Store.{Store}
use Rattle.strm_io.specs.Writing.{Appends}
use Rattle.status_lines.specs.declared.statuses.Status.{Status}
use Rattle.status_lines.specs.declared.statuses.Status.TheVariants.{Missing, ReadFault, WriteFault, NoMemory}
use Rattle.job_steps.specs.Jobs.{Prepares}
use Rattle.job_steps.specs.Works.{Work, Ends}

-- a step fails with the status, and nothing is written
abbrev pub IsStopped : (Result Work Status → Type 0) → Option (List ℕ) → Option (List ℕ) → Status → Type 0
IsStopped steps out out' status = steps (Err status) × (out' ≡ out)

-- all steps pass, the work ends with a status and a text, and something holds of them
pub record IsDone (steps : Result Work Status → Type 0) (holds : Status → List ℕ → Type 0) : Type 0 where
  pub work : Work
  pub passes : steps (Ok work)
  pub end : Status
  pub text : List ℕ
  pub ends : Ends work end text
  pub holds_of_it : holds end text

-- what a status says of steps and of what was written
abbrev pub AnswersSteps : (Result Work Status → Type 0) → Option (List ℕ) → Option (List ℕ) → Status → Type 0
AnswersSteps steps out out' NoMemory = out' ≡ out
AnswersSteps steps out out' WriteFault = IsDone steps (λ end text. AppendsPrefix out out' text)
AnswersSteps steps out out' status =
    IsStopped steps out out' status ⊎ IsDone steps (λ end text. (end ≡ status) × Appends out out' text)

-- what a status says of the words, of the files and of what was written
abbrev pub Answers : Option Store → List (List ℕ) → Option (List ℕ) → Option (List ℕ) → Status → Type 0
Answers store words = AnswersSteps (Prepares store words)

-- a status that a device causes comes only where its count rose
abbrev pub HasCause : Status → (out_faults out_faults' : ℕ) → FilesTold → FilesTold → Type 0
HasCause (Missing name) out_faults out_faults' old new = Rose old.misses new.misses
HasCause (ReadFault name) out_faults out_faults' old new = Rose old.faults new.faults
HasCause WriteFault out_faults out_faults' old new = Rose out_faults out_faults'
HasCause status out_faults out_faults' old new = Unit {0}

-- what a command leaves of its devices: what the store holds stays, no count falls, and the status has its cause
pub record LeavesDevices (old new : FilesTold) (out_faults out_faults' : ℕ) (status : Status) : Type 0 where
  pub files : LeavesFiles old new (HasCause status out_faults out_faults')
  pub write_faults : out_faults ≤ out_faults'

-- ---- when a status comes

-- the two are one, or one is that a file wasn't read
abbrev pub IsOneUnlessUnread : Result Work Status → Result Work Status → Type 0
IsOneUnlessUnread (Err (ReadFault name)) other = Unit {0}
IsOneUnlessUnread end (Err (ReadFault name)) = Unit {0}
IsOneUnlessUnread end other = end ≡ other

-- memory was refused, or a file wasn't read
abbrev pub IsUnread : Status → Type 0
IsUnread NoMemory = Unit {0}
IsUnread (ReadFault name) = Unit {0}
IsUnread status = ⊥

-- memory was refused, or a device failed
abbrev pub IsCutShort : Status → Type 0
IsCutShort WriteFault = Unit {0}
IsCutShort status = IsUnread status

-- what comes where a step fails with a status: this status, unless memory was refused or a file wasn't read. That
-- a file isn't read is no matter of what the store holds
abbrev pub ComesOfFailing : Status → Status → Type 0
ComesOfFailing (ReadFault name) status = Unit {0}
ComesOfFailing failed status = (status ≡ failed) ⊎ IsUnread status

-- what comes where all steps pass: a status that the work ends with, unless memory was refused or a device failed
abbrev pub ComesOfWork : Work → Status → Type 0
ComesOfWork work status = ((text : List ℕ) × Ends work status text) ⊎ IsCutShort status
