use Rattle.stateful_core.specs.CoreCopies.{actions_of}
use Rattle.zip_linearise.proofs.MachineActs.{holding_made}
use Rattle.zip_linearise.proofs.zips.holding_acts.Goals as goal

pub returns : goal.returns
returns c =
    holding_made c.new-made.result c.push_held.new.made _ _ (actions_of c.push_skip.new.made)
    c.new-made.ensures c.in_ok-push_held.ensures c.in_ok-push_skip.ensures
