use Rattle.std.proofs.Common.{arith, ◌+◌, ◌∙◌}
use Rattle.std.proofs.lemmas.Result.{IfOk-weaker}
use Rattle.list_denotation.specs.Copies.{term_of, terms_of}
use Rattle.stateful_core.specs.CoreCopies.{actions_of}
use Rattle.act_moves.specs.WordRoom.{number_in}
use Rattle.stage_machines.specs.MachineCopies.{machine_of}
use Rattle.zip_linearise.proofs.MachineActs.{choice_first}
use Rattle.zip_linearise.proofs.PairRoom.{first_room, inner_room, guard_in_room, init_in_room, item_in_room, acts_in_room, first_numbers, inner_numbers, nest_made}
use Rattle.zip_linearise.proofs.nests.nest_machine.Goals as goal

pub renumber-requires : goal.renumber-requires
renumber-requires c =
    guard_in_room (machine_of c.args.outer.now) c.requires.outer (first_room c.args.outer.now.scope c.width-row.result c.width-states.result c.width.result) (omega arith)

pub opening_acts-requires-clause-acts : goal.opening_acts-requires-clause-acts
opening_acts-requires-clause-acts c =
    acts_in_room (machine_of c.args.outer.now) c.requires.outer (first_room c.args.outer.now.scope c.width-row.result c.width-states.result c.width.result) (omega arith) _ (omega arith)

pub opening_acts-requires-clause-row : goal.opening_acts-requires-clause-row
opening_acts-requires-clause-row c =
    item_in_room (machine_of c.args.outer.now) c.requires.outer (first_room c.args.outer.now.scope c.width-row.result c.width-states.result c.width.result) (omega arith)

pub opening_acts-requires-clause-start : goal.opening_acts-requires-clause-start
opening_acts-requires-clause-start c =
    init_in_room (machine_of c.args.inner.now) c.requires.inner (inner_room c.args.outer.now.scope c.width-row.result c.width-states.result) (omega arith)

pub push_inner-requires-clause-guard : goal.push_inner-requires-clause-guard
push_inner-requires-clause-guard c =
    guard_in_room (machine_of c.args.inner.now) c.requires.inner (inner_room c.args.outer.now.scope c.width-row.result c.width-states.result) (omega arith)

pub push_inner-requires-clause-acts : goal.push_inner-requires-clause-acts
push_inner-requires-clause-acts c =
    acts_in_room (machine_of c.args.inner.now) c.requires.inner (inner_room c.args.outer.now.scope c.width-row.result c.width-states.result) (omega arith) _ (omega arith)

pub renumber_row-requires : goal.renumber_row-requires
renumber_row-requires c =
    item_in_room (machine_of c.args.inner.now) c.requires.inner (inner_room c.args.outer.now.scope c.width-row.result c.width-states.result) (omega arith)

pub returns : goal.returns
returns c =
    let outer = machine_of c.args.outer.now in
    let f = number_in (first_room outer.scope c.width-row.result c.width-states.result c.width.result) in
    let g = number_in (inner_room outer.scope c.width-row.result c.width-states.result) in
    let acts_are =
    choice_first c.new-acts.result c.new.result c.in_ok-opening.opening c.push.new.self outer.scope _ (actions_of c.push_inner.new.made)
    c.new-acts.ensures c.new.ensures c.in_ok-push.ensures.ok c.in_ok-push_inner.ensures in
    IfOk-weaker c.boxed_machine.result _ _
    (λ made h. h ∙ nest_made outer (machine_of c.args.inner.now) f g (1 + c.width-row.result + c.width-states.result)
    (terms_of c.in_ok-init.init) (term_of c.in_ok-guard.guard.value) (term_of c.in_ok-guard-2.guard.value)
    (actions_of c.in_ok-opening.opening) (actions_of c.push_inner.new.made) (terms_of c.in_ok-item.item)
    (first_numbers outer c.width-row.result c.width-states.result c.width.result _ c.width-row.ensures c.width-states.ensures c.width.ensures)
    (inner_numbers outer c.width-row.result c.width-states.result c.width-row.ensures c.width-states.ensures) (omega arith)
    c.in_ok-init.ensures c.in_ok-guard.ensures c.in_ok-guard-2.ensures c.in_ok-opening.ensures acts_are c.in_ok-item.ensures)
    c.boxed_machine.ensures
