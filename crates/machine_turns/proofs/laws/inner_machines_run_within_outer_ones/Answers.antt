use Rattle.machine_turns.proofs.NestTurns.{nest_runs, nest_far}
use Rattle.machine_turns.proofs.laws.inner_machines_run_within_outer_ones.Goals as goal

pub returns : goal.returns
returns c = record {
  no_further = λ guard turn opens takes start n s. nest_far guard turn opens takes start n s;
  reaches = λ guard turn opens takes start width inner turns reached rows s w h k. nest_runs guard turn opens takes start width inner turns reached h k;
}
