use Rattle.stage_machines.proofs.JoinedTurns.{states_joined, guards_of_both, turns_of_both}
use Rattle.stage_machines.proofs.laws.turns_are_joined.Goals as goal

pub returns : goal.returns
returns c = record {
  states = λ w m stage env inputs. states_joined inputs env w m stage;
  turns = λ w m stage env inputs r x p over scoped wide h. turns_of_both c.laws_below.ensures inputs env w m stage over scoped r wide x p h;
  guards = λ w m stage env inputs x p scoped h. guards_of_both inputs env w m stage scoped x p h;
}
