use Rattle.std.proofs.Common.{ap, ◌∙◌}
use Rattle.list_denotation.specs.Copies.{terms_of}
use Rattle.stateful_core.specs.CoreCopies.{actions_of}
use Rattle.stateful_core.specs.CoreTerms.{StopUnless, join}
use Rattle.act_moves.specs.Renumbering.{renumber_row, move_actions}
use Rattle.act_moves.specs.WordRoom.{number_in}
use Rattle.act_moves.proofs.MadeActs.{from_empty}
use Rattle.stage_machines.proofs.MadeStages.{stage_joined}
use Rattle.stage_machines.proofs.stages.stage_acts.Goals as goal

pub returns : goal.returns
returns c =
    let f = number_in c.args.of_lower in
    let g = number_in c.args.of_stage in
    let lower = c.args.lower.acts.now in
    let first = from_empty f 0 StopUnless c.new-made.result c.as_slice-first.result.now lower (actions_of c.push_moved.new.made) c.new-made.ensures c.as_slice-first.ensures c.in_ok-push_moved.ensures in
    let third = c.in_ok-push_moved-2.ensures ∙ ap (λ z. join (actions_of c.push_lets.new.acts) (move_actions g c.args.behind StopUnless (actions_of z))) c.as_slice-own.ensures in
    stage_joined (move_actions f 0 StopUnless (actions_of lower)) (terms_of c.in_ok-row.row) (renumber_row f (terms_of c.args.lower.item.now)) (move_actions g c.args.behind StopUnless (actions_of c.args.acts.now))
    (actions_of c.push_moved.new.made) (actions_of c.push_lets.new.acts) (actions_of c.push_moved-2.new.made) first c.in_ok-row.ensures c.in_ok-push_lets.ensures third
