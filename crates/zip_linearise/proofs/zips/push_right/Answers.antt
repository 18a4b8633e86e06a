use Rattle.std.proofs.lemmas.Result.{on_ok_weaker}
use Rattle.stateful_core.specs.CoreCopies.{actions_of}
use Rattle.act_moves.specs.WordRoom.{number_in}
use Rattle.zip_linearise.proofs.MachineActs.{right_made}
use Rattle.zip_linearise.proofs.zips.push_right.Goals as goal

pub returns : goal.returns
returns c =
    on_ok_weaker c.push_flag.result
    (λ e. right_made (number_in c.args.room) c.args.place c.args.right.now.acts c.as_slice.result.now (actions_of c.args.made.now) (actions_of c.push_moved.new.made) (actions_of c.push_flag.new.made)
    c.as_slice.ensures c.in_ok-push_moved.ensures e)
    c.push_flag.ensures
