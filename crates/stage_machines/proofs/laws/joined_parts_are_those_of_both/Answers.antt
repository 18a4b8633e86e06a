use Rattle.stage_machines.proofs.JoinedLeaves.{joined_leaves, joined_temps}
use Rattle.stage_machines.proofs.JoinedParts.{joined_words, joined_sound}
use Rattle.stage_machines.proofs.laws.joined_parts_are_those_of_both.Goals as goal

pub returns : goal.returns
returns c = record {
  sound = λ w m stage over. joined_sound w m stage over c.laws_below.ensures;
  words = joined_words;
  leaves = joined_leaves;
  temporaries = joined_temps;
}
