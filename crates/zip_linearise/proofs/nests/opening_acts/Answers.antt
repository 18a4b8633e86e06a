use Rattle.stateful_core.specs.CoreCopies.{actions_of}
use Rattle.zip_linearise.proofs.MachineActs.{opening_made}
use Rattle.zip_linearise.proofs.nests.opening_acts.Goals as goal

pub returns : goal.returns
returns c =
    opening_made c.new-made.result c.push_held.new.made c.push.new.self _ _ c.args.place c.in_ok-renumber_row.field-0 _ (actions_of c.push_skip.new.made)
    c.new-made.ensures c.in_ok-push_held.ensures c.in_ok-push.ensures.ok c.in_ok-renumber_row.ensures c.in_ok-push_skip.ensures
