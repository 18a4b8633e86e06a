-- What a pipeline is answered with: its observation, or that its work is above the most.
use Rattle.std.specs.Prelude.{◌≡◌, ℕ, ◌<◌, ◌≤◌, List, Result, Ok, Err}
use Rattle.list_denotation.specs.declared.input.Input.{Input}
use Rattle.list_denotation.specs.Observation.{observation}
use Rattle.list_denotation.specs.Terms.{Pipeline}
use Rattle.list_denotation.specs.Work.{work}
use Rattle.list_model.specs.declared.fault.ModelFault.{ModelFault}
use Rattle.list_model.specs.declared.fault.ModelFault.TheVariants as fault
use Rattle.list_model.specs.declared.observation.Observation.{Observation}
use Rattle.pipe_limits.specs.declared.TheConstants.{MOST_WORK}
use Rattle.list_model.specs.Seen.{seen_of}

-- nothing is said where memory was refused
abbrev pub IsAnswer : Pipeline → List Input → ℕ → Result Observation ModelFault → Type 0
IsAnswer p inputs n (Ok o) = (work p inputs n ≤ MOST_WORK) × (seen_of o ≡ observation p inputs n)
IsAnswer p inputs n (Err fault.TooMuch) = MOST_WORK < work p inputs n
IsAnswer p inputs n (Err fault.NoMemory) = Unit {0}
