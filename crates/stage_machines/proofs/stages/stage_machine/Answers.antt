use Rattle.std.proofs.Common.{◌∙◌, ◌+◌, ap, arith}
use Rattle.std.proofs.lemmas.Result.{IfOk-weaker}
use Rattle.list_denotation.specs.Copies.{term_of, terms_of}
use Rattle.stateful_core.specs.CoreCopies.{actions_of}
use Rattle.stage_machines.specs.MachineCopies.{parts_of}
use Rattle.stage_machines.proofs.StageRoom.{few_locals, guard_below, lower_guard_below, lower_item_below, item_below, lower_acts_below, acts_below, stage_made}
use Rattle.stage_machines.proofs.stages.stage_machine.Goals as goal

pub locals-requires : goal.locals-requires
locals-requires c = omega (arith, few_locals c.args.row (parts_of c.args.lower) (parts_of c.args.stage) c.requires.over c.requires.room)

pub overflow_add-of_stage-3 : goal.overflow_add-of_stage-3
overflow_add-of_stage-3 c = omega (arith, c.locals.ensures, few_locals c.args.row (parts_of c.args.lower) (parts_of c.args.stage) c.requires.over c.requires.room)

pub renumber-requires : goal.renumber-requires
renumber-requires c =
    guard_below c.args.row (parts_of c.args.lower) (parts_of c.args.stage) c.requires.over c.requires.room
    c.width-states.result c.width-own.result (c.args.row + c.locals.result) c.width-states.ensures c.width-own.ensures (ap (λ n. c.args.row + n) c.locals.ensures)

pub renumber-requires-2 : goal.renumber-requires-2
renumber-requires-2 c =
    lower_guard_below c.args.row (parts_of c.args.lower) (parts_of c.args.stage) c.requires.over c.requires.room
    c.width-states.result c.width-own.result (c.args.row + c.locals.result) c.width-states.ensures c.width-own.ensures (ap (λ n. c.args.row + n) c.locals.ensures)

pub stage_acts-requires-clause-row : goal.stage_acts-requires-clause-row
stage_acts-requires-clause-row c =
    lower_item_below c.args.row (parts_of c.args.lower) (parts_of c.args.stage) c.requires.over c.requires.room
    c.width-states.result c.width-own.result (c.args.row + c.locals.result) c.width-states.ensures c.width-own.ensures (ap (λ n. c.args.row + n) c.locals.ensures)

pub stage_acts-requires-clause-lower : goal.stage_acts-requires-clause-lower
stage_acts-requires-clause-lower c =
    lower_acts_below c.args.row (parts_of c.args.lower) (parts_of c.args.stage) c.requires.over c.requires.room
    c.width-states.result c.width-own.result (c.args.row + c.locals.result) c.width-states.ensures c.width-own.ensures (ap (λ n. c.args.row + n) c.locals.ensures)

pub stage_acts-requires-clause-stage : goal.stage_acts-requires-clause-stage
stage_acts-requires-clause-stage c =
    acts_below c.args.row (parts_of c.args.lower) (parts_of c.args.stage) c.requires.over c.requires.room
    c.width-states.result c.width-own.result (c.args.row + c.locals.result) c.width-states.ensures c.width-own.ensures (ap (λ n. c.args.row + n) c.locals.ensures)

pub renumber_row-requires : goal.renumber_row-requires
renumber_row-requires c =
    item_below c.args.row (parts_of c.args.lower) (parts_of c.args.stage) c.requires.over c.requires.room
    c.width-states.result c.width-own.result (c.args.row + c.locals.result) c.width-states.ensures c.width-own.ensures (ap (λ n. c.args.row + n) c.locals.ensures)

pub returns : goal.returns
returns c =
    IfOk-weaker c.boxed_machine.result _ _
    (λ made h. h ∙ stage_made c.args.row (parts_of c.args.lower) (parts_of c.args.stage) c.width-states.result c.width-own.result (c.args.row + c.locals.result)
    (terms_of c.in_ok-init.init) (term_of c.in_ok-guard.guard.value) (term_of c.in_ok-below.below.value) (term_of c.in_ok-guard-2.guard.value) (actions_of c.in_ok-acts.acts) (terms_of c.in_ok-item.item)
    c.width-states.ensures c.width-own.ensures (ap (λ n. c.args.row + n) c.locals.ensures) c.in_ok-init.ensures c.in_ok-guard.ensures c.in_ok-below.ensures c.in_ok-guard-2.ensures c.in_ok-acts.ensures c.in_ok-item.ensures)
    c.boxed_machine.ensures
