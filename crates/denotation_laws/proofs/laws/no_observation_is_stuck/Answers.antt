use Rattle.denotation_laws.proofs.NeverStuck.{never_stuck}
use Rattle.denotation_laws.proofs.laws.no_observation_is_stuck.Goals as goal

pub returns : goal.returns
returns c = never_stuck
