use Rattle.turn_blocks.proofs.TurnRuns.{turn_lowered}
use Rattle.turn_blocks.proofs.laws.turns_are_lowered.Goals as goal

pub returns : goal.returns
returns c = turn_lowered c.laws_below.ensures
