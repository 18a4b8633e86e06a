-- When one observation is as far as another.
use Rattle.std.specs.Prelude.{◌≡◌, ◌⊎◌, List, ◌++◌}
use Rattle.list_denotation.specs.declared.event.Event.{Event}
use Rattle.list_denotation.specs.Observation.{Going, Seen}

-- the first is still going, and its events are a prefix of the other's
pub record GoesOn (o u : Seen) : Type 0 where
  pub going : o.standing ≡ Going
  pub rest : List Event
  pub prefix : u.events ≡ o.events ++ rest

abbrev pub Far : Seen → Seen → Type 0
Far o u = (o ≡ u) ⊎ GoesOn o u
