-- What an observation in the code stands for.
use Rattle.list_model.specs.declared.observation.Stop.{Stop}
use Rattle.list_model.specs.declared.observation.Stop.TheVariants as stop
use Rattle.list_model.specs.declared.observation.Observation.{Observation}
use Rattle.list_denotation.specs.Values.{Trap}
use Rattle.list_denotation.specs.Observation.{Standing, Done, Going, Failed, Seen}

abbrev pub standing_at : Stop → Standing
standing_at stop.Done = Done
standing_at stop.Going = Going
standing_at stop.Trap = Failed Trap

abbrev pub seen_of : Observation → Seen
seen_of o = record { events = o.events; standing = standing_at o.stop }
