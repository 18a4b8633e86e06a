use Rattle.loop_ir.proofs.MarkedPrograms.{marked_loops, marked_well_formed}
use Rattle.loop_ir.proofs.Marks.{turns_are_marked}
use Rattle.loop_ir.proofs.laws.marks_tell_turns.Goals as goal

pub returns : goal.returns
returns c = record {
  tells = turns_are_marked;
  loops = marked_loops;
  well_formed = marked_well_formed;
}
