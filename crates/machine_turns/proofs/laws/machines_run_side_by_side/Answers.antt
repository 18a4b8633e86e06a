use Rattle.machine_turns.proofs.ZipTurns.{zip_runs, zip_far}
use Rattle.machine_turns.proofs.laws.machines_run_side_by_side.Goals as goal

pub returns : goal.returns
returns c = record {
  no_further = λ guard turn opens takes n s t. zip_far guard turn opens takes n s t;
  reaches = λ guard turn opens takes x y s t a b h k. zip_runs guard turn opens takes h y t b k;
}
