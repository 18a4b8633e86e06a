use Rattle.std.proofs.Common.{ap, ◌∙◌}
use Rattle.std.proofs.lemmas.Result.{on_ok_weaker}
use Rattle.list_denotation.specs.Copies.{terms_of}
use Rattle.stateful_core.specs.CoreCopies.{actions_of}
use Rattle.act_moves.specs.WordRoom.{number_in}
use Rattle.zip_linearise.proofs.MachineActs.{held_push}
use Rattle.zip_linearise.proofs.holding.push_held.Goals as goal

pub returns : goal.returns
returns c =
    on_ok_weaker c.push.result
    (λ e. ap actions_of e
    ∙ held_push (number_in c.args.room) (actions_of c.args.made.now) c.push_moved.new.made c.args.m.now.acts c.as_slice.result.now c.in_ok-renumber_row.field-0 (terms_of c.args.m.now.item) c.width.result
    c.as_slice.ensures c.width.ensures c.in_ok-push_moved.ensures c.in_ok-renumber_row.ensures)
    c.push.ensures.ok
