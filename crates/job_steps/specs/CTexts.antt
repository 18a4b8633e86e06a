-- What comes of reading a C text: its program, or its first fault.
use Rattle.std.specs.Prelude.{ℕ, List, Option, Result, Ok, Err}
use Rattle.c_faults.specs.Answers.{ReadsAs}
use Rattle.c_faults.specs.declared.fault.CFault.TheVariants as fault
use Rattle.loop_ir.specs.Statements.{Routine}
use Rattle.pipe_limits.specs.declared.TheConstants.{MOST_C_BYTES}
use Rattle.strm_io.specs.Store.{Store}
use Rattle.status_lines.specs.declared.refusals.Refusal.TheVariants.{C}
use Rattle.status_lines.specs.declared.statuses.Status.{Status}
use Rattle.status_lines.specs.declared.statuses.Status.TheVariants.{Refused}
use Rattle.job_steps.specs.Steps.{Then}
use Rattle.job_steps.specs.Loads.{Loads}

abbrev pub ReadsC : List ℕ → Result Routine Status → Type 0
ReadsC src (Ok q) = ReadsAs src (Ok q)
ReadsC src (Err (Refused (C fault.NoMemory))) = ⊥
ReadsC src (Err (Refused (C f))) = ReadsAs src (Err f)
ReadsC src (Err status) = ⊥

-- the file is loaded and read
abbrev pub LoadsC : Option Store → List ℕ → Result Routine Status → Type 0
LoadsC store name = Then (Loads store name MOST_C_BYTES) ReadsC
