use Rattle.zip_linearise.proofs.MachineRows.{machine_no_further, machine_as_far}
use Rattle.zip_linearise.proofs.laws.machines_go_as_far_as_terms.Goals as goal

pub returns : goal.returns
returns c = record {
  no_further = λ m env inputs n h q. machine_no_further c.laws_below.ensures inputs env m h q n;
  as_far = λ m env inputs n h q. machine_as_far c.laws_below.ensures inputs env m h q n;
  widths = c.laws_below.ensures.widths;
}
