use Rattle.stage_machines.proofs.JoinedRows.{machine_joined, machine_reached, stage_joined}
use Rattle.stage_machines.proofs.laws.stages_join_what_is_below.Goals as goal

pub returns : goal.returns
returns c = record {
  machines = λ m stage env inputs n over scoped. machine_joined c.laws_below.ensures inputs env m stage over scoped n;
  reaches = λ m stage env inputs rows v over scoped h. machine_reached c.laws_below.ensures inputs env m stage over scoped rows v h;
  stages = λ of m stage env inputs n over scoped. stage_joined c.laws_below.ensures inputs env of m stage over scoped n;
}
