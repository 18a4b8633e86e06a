use Rattle.denotation_laws.proofs.Growth.{rows_grow, observation_grows, rows_grow_on, observation_grows_on, work_grows, work_grows_on}
use Rattle.denotation_laws.proofs.laws.observations_grow.Goals as goal

pub returns : goal.returns
returns c = record {
  rows = rows_grow;
  far = observation_grows;
  work = work_grows;
  rows_later = rows_grow_on;
  far_later = observation_grows_on;
  work_later = work_grows_on;
}
