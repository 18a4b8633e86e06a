use Rattle.dead_code.proofs.LivePrograms.{live_means, live_turns}
use Rattle.dead_code.proofs.laws.dead_code_does_nothing.Goals as goal

pub returns : goal.returns
returns c = record { meaning = live_means; turns = live_turns }
