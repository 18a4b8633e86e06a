use Rattle.loop_ir.proofs.GrowingTurns.{turns_grow, turns_stay}
use Rattle.loop_ir.proofs.LoopTurns.{turns_long}
use Rattle.loop_ir.proofs.SpentTurns.{turns_are_spent, all_turns_are_spent}
use Rattle.loop_ir.proofs.laws.turns_are_counted.Goals as goal

pub returns : goal.returns
returns c = record {
  lengths = turns_long;
  grow = turns_grow;
  stay = turns_stay;
  spent = turns_are_spent;
  all_spent = all_turns_are_spent;
}
