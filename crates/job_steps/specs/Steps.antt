-- Steps of a command, which are gone through in order. A step is what may come of it: something that it
-- gives, or a status, with which it fails and the command ends.
use Rattle.std.specs.Prelude.{◌≡◌, ◌⊎◌, Result, Ok, Err}
use Rattle.status_lines.specs.declared.statuses.Status.{Status}
use Rattle.status_lines.specs.declared.statuses.Status.TheVariants.{NoMemory}

-- what comes of a step is this
abbrev pub Is : {A : Type 0} → Result A Status → Result A Status → Type 0
Is given end = end ≡ given

-- it is a status, with which the step fails
abbrev pub FailsBy : {A B : Type 0} → (Result A Status → Type 0) → Result B Status → Type 0
FailsBy step (Ok b) = ⊥
FailsBy step (Err status) = step (Err status)

-- a step, and then the next with what the first gave, unless the first fails
abbrev pub Then : {A B : Type 0} → (Result A Status → Type 0) → (A → Result B Status → Type 0) → Result B Status → Type 0
Then {A} first next end = FailsBy first end ⊎ ((a : A) × (first (Ok a) × next a end))

-- what a call gives comes of the step, or memory was refused
abbrev pub ComesOf : {X A : Type 0} → (X → A) → (Result A Status → Type 0) → Result X Status → Type 0
ComesOf copy step (Ok x) = step (Ok (copy x))
ComesOf copy step (Err NoMemory) = Unit {0}
ComesOf copy step (Err status) = step (Err status)
