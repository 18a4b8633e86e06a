use Rattle.std.proofs.Common.{arith, ◌+◌, ◌∙◌}
use Rattle.std.proofs.lemmas.Result.{IfOk-weaker}
use Rattle.list_denotation.specs.Copies.{term_of, terms_of}
use Rattle.stateful_core.specs.CoreCopies.{actions_of}
use Rattle.act_moves.specs.WordRoom.{number_in}
use Rattle.stage_machines.specs.MachineCopies.{machine_of}
use Rattle.zip_linearise.proofs.MachineActs.{choice_first}
use Rattle.zip_linearise.proofs.PairRoom.{first_room, right_room, guard_in_room, item_in_room, acts_in_room, first_numbers, right_numbers, zip_made}
use Rattle.zip_linearise.proofs.zips.zip_machine.Goals as goal

pub renumber-requires : goal.renumber-requires
renumber-requires c =
    guard_in_room (machine_of c.args.right.now) c.requires.right (right_room c.args.left.now.scope (1 + c.width-row.result + c.width.result)) (omega arith)

pub renumber-requires-2 : goal.renumber-requires-2
renumber-requires-2 c =
    guard_in_room (machine_of c.args.left.now) c.requires.left (first_room c.args.left.now.scope c.width-row.result c.width.result c.width-2.result) (omega arith)

pub holding_acts-requires-clause-acts : goal.holding_acts-requires-clause-acts
holding_acts-requires-clause-acts c =
    acts_in_room (machine_of c.args.left.now) c.requires.left (first_room c.args.left.now.scope c.width-row.result c.width.result c.width-2.result) (omega arith) _ (omega arith)

pub holding_acts-requires-clause-row : goal.holding_acts-requires-clause-row
holding_acts-requires-clause-row c =
    item_in_room (machine_of c.args.left.now) c.requires.left (first_room c.args.left.now.scope c.width-row.result c.width.result c.width-2.result) (omega arith)

pub push_right-requires : goal.push_right-requires
push_right-requires c =
    acts_in_room (machine_of c.args.right.now) c.requires.right (right_room c.args.left.now.scope (1 + c.width-row.result + c.width.result)) (omega arith) _ (omega arith)

pub joined_row-requires-clause-item : goal.joined_row-requires-clause-item
joined_row-requires-clause-item c =
    item_in_room (machine_of c.args.right.now) c.requires.right (right_room c.args.left.now.scope (1 + c.width-row.result + c.width.result)) (omega arith)

pub returns : goal.returns
returns c =
    let left = machine_of c.args.left.now in
    let place = 1 + c.width-row.result + c.width.result in
    let f = number_in (first_room left.scope c.width-row.result c.width.result c.width-2.result) in
    let g = number_in (right_room left.scope place) in
    let acts_are =
    choice_first c.new-acts.result c.new.result c.in_ok-holding.holding c.push.new.self left.scope _ (actions_of c.push_right.new.made)
    c.new-acts.ensures c.new.ensures c.in_ok-push.ensures.ok c.in_ok-push_right.ensures in
    IfOk-weaker c.boxed_machine.result _ _
    (λ made h. h ∙ zip_made left (machine_of c.args.right.now) f g c.width-row.result place
    (terms_of c.in_ok-init.init) (term_of c.in_ok-right_guard.right_guard.value) (term_of c.in_ok-left_guard.left_guard.value)
    (term_of c.in_ok-guard.guard.value) (actions_of c.in_ok-holding.holding) (actions_of c.push_right.new.made) (terms_of c.in_ok-item.item)
    (first_numbers left c.width-row.result c.width.result c.width-2.result _ c.width-row.ensures c.width.ensures c.width-2.ensures)
    (right_numbers left place (omega arith)) c.width-row.ensures (omega arith)
    c.in_ok-init.ensures c.in_ok-right_guard.ensures c.in_ok-left_guard.ensures c.in_ok-guard.ensures c.in_ok-holding.ensures acts_are c.in_ok-item.ensures)
    c.boxed_machine.ensures
