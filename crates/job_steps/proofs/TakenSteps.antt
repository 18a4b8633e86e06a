-- What comes of steps one behind another, from what calls gave for them.
use Rattle.std.proofs.Common.{inl, inr, Ok, Err}
use Rattle.std.specs.Prelude.{Result}
use Rattle.status_lines.specs.declared.statuses.Status.{Status}
use Rattle.status_lines.specs.declared.statuses.Status.TheVariants.{NoMemory}
use Rattle.job_steps.specs.Steps.{Then, ComesOf}

module _ {X Y A B : Type 0} (copy : X → A) (copy' : Y → B) (first : Result A Status → Type 0) (next : A → Result B Status → Type 0) where
  -- where the first fails, so do both
  pub first_fails : (status : Status) → ComesOf copy first (Err status) → ComesOf copy' (Then first next) (Err status)
  first_fails NoMemory h = tt
  first_fails status h = inl h

  -- where the first gave something, what came of the next comes of both
  pub first_gives : (x : X) (end : Result Y Status) → ComesOf copy first (Ok x) → ComesOf copy' (next (copy x)) end → ComesOf copy' (Then first next) end
  first_gives x (Ok y) h k = inr (copy x, (h, k))
  first_gives x (Err NoMemory) h k = tt
  first_gives x (Err status) h k = inr (copy x, (h, k))
