use Rattle.machine_turns.proofs.StageTurns.{stage_far, join_runs, join_rows_of, join_stages_of}
use Rattle.machine_turns.proofs.laws.stages_run_over_machines.Goals as goal

pub returns : goal.returns
returns c = record {
  rows = λ guard turn opens takes n s t. join_rows_of guard turn opens takes n s t;
  stages = λ guard lower opens takes rows s t. join_stages_of guard lower opens takes rows s t;
  reaches = λ guard turn opens takes rows s t w h. join_runs guard turn opens takes h t;
  far = λ opens takes t o u h. stage_far opens takes t h;
}
