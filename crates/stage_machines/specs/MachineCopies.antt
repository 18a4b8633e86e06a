-- The plain copies of the code's machines, and of parts where they stand.
use Rattle.list_denotation.specs.Copies.{term_of, terms_of}
use Rattle.stateful_core.specs.CoreCopies.{actions_of}
use Rattle.stage_machines.specs.declared.machine.Machine.{Machine}
use Rattle.stage_machines.specs.declared.machine.Parts.{Parts}
use Rattle.stage_machines.specs.MachineParts.{MachineParts}

abbrev pub machine_of : Machine → MachineParts
machine_of m = record {
  scope = m.scope;
  init = terms_of m.init;
  guard = term_of m.guard;
  acts = actions_of m.acts;
  item = terms_of m.item;
}

abbrev pub parts_of : Parts → MachineParts
parts_of m = record {
  scope = m.scope;
  init = terms_of m.init.now;
  guard = term_of m.guard.now;
  acts = actions_of m.acts.now;
  item = terms_of m.item.now;
}
