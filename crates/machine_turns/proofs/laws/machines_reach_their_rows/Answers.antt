use Rattle.machine_turns.proofs.MachineRuns.{runs_far, own_runs}
use Rattle.machine_turns.proofs.laws.machines_reach_their_rows.Goals as goal

pub returns : goal.returns
returns c = record {
  far = λ guard turn rows s w h. runs_far guard turn h;
  own = λ guard turn n s. own_runs guard turn n s;
}
