-- Why a C text is refused.
use Rattle.std.specs.Prelude.{◌≢◌, ℕ, List, Option, Some, None, Ok, Err}
use Rattle.c_faults.specs.Answers.{ReadsAs}
use Rattle.c_faults.specs.declared.fault.CFault.{CFault}
use Rattle.c_faults.specs.declared.fault.CFault.TheVariants.{NoMemory}
use Rattle.loop_ir.specs.Statements.{Routine}

-- the first fault of the bytes, however many there are, or that they are a program; want of memory is no reason
abbrev pub HasCRefusal : List ℕ → Option CFault → Type 0
HasCRefusal src None = (q : Routine) × ReadsAs src (Ok q)
HasCRefusal src (Some fault) = ReadsAs src (Err fault) × (fault ≢ NoMemory)
