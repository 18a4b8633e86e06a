use Rattle.std.proofs.Common.{rules, ◌∙◌, ◌-◌, ◌^◌}
use Rattle.stateful_core.specs.CoreCopies.{actions_of}
use Rattle.act_moves.specs.Halts.{halt_action}
use Rattle.act_moves.specs.WordRoom.{number_in, most_in}
use Rattle.act_moves.proofs.MadeActs.{move_step, acts_below, let_pushed, read_pushed, keep_pushed, stop_pushed, update_pushed, when_pushed, from_empty}
use Rattle.act_moves.proofs.renumbering.+moves.Goals as goal

pub push_moved-loop-act-preserved : goal.push_moved-loop-act-preserved
push_moved-loop-act-preserved t c = record {
  whole = move_step (number_in c.args.room) c.args.behind (halt_action c.args.halt) (actions_of c.loop-act.made) (actions_of c.push_moved_act.new.made) c.args.acts.now c.loop-act.act-index c.act-item.result c.loop-act-test.true c.act-item.is c.in_ok-push_moved_act.ensures
      ∙ c.loop-act.invariant.whole;
  below = (acts_below (most_in c.args.room) (2 ^ 32 - c.args.behind) c.args.acts.now c.loop-act.act-index c.act-item.result c.loop-act-test.true c.act-item.is c.loop-act.invariant.below).1;
}

pub push_moved_act-returns-in_ok-renumber-in-Let : goal.push_moved_act-returns-in_ok-renumber-in-Let
push_moved_act-returns-in_ok-renumber-in-Let t c =
    let_pushed (number_in c.args.room) c.args.behind (halt_action c.args.halt) c.push.result c.args.made.now c.push.new.self c.args.act.now c.in-Let.e c.into_inner.result c.in-Let.is (search rules) c.push.ensures.ok

pub push_moved_act-returns-in_ok-renumber-in-Read : goal.push_moved_act-returns-in_ok-renumber-in-Read
push_moved_act-returns-in_ok-renumber-in-Read t c =
    read_pushed (number_in c.args.room) c.args.behind (halt_action c.args.halt) c.push-in-Read.result c.args.made.now c.push-in-Read.new.self c.args.act.now c.in-Read.k c.in-Read.e c.into_inner-in-Read.result c.in-Read.is (search rules) c.push-in-Read.ensures.ok

pub push_moved_act-returns-in_ok-renumber-in-KeepIf : goal.push_moved_act-returns-in_ok-renumber-in-KeepIf
push_moved_act-returns-in_ok-renumber-in-KeepIf t c =
    keep_pushed (number_in c.args.room) c.args.behind (halt_action c.args.halt) c.push-in-KeepIf.result c.args.made.now c.push-in-KeepIf.new.self c.args.act.now c.in-KeepIf.e c.into_inner-in-KeepIf.result c.in-KeepIf.is (search rules) c.push-in-KeepIf.ensures.ok

pub push_moved_act-returns-in_ok-renumber-in-StopUnless : goal.push_moved_act-returns-in_ok-renumber-in-StopUnless
push_moved_act-returns-in_ok-renumber-in-StopUnless t c =
    stop_pushed (number_in c.args.room) c.args.behind (halt_action c.args.halt) c.push_halt.result c.args.made.now c.push_halt.new.made c.args.act.now c.in-StopUnless.e c.in_ok-renumber-in-StopUnless.field-0.value c.in-StopUnless.is (search rules) c.push_halt.ensures

pub push_moved_act-returns-in_ok-renumber_row-in-Update : goal.push_moved_act-returns-in_ok-renumber_row-in-Update
push_moved_act-returns-in_ok-renumber_row-in-Update t c =
    update_pushed (number_in c.args.room) c.args.behind (halt_action c.args.halt) c.push-in-Update.result c.args.made.now c.push-in-Update.new.self c.args.act.now c.in-Update.k c.in-Update.es c.in_ok-renumber_row-in-Update.field-0 c.in-Update.is (search rules) c.push-in-Update.ensures.ok

pub push_moved_act-returns-in_ok-push_moved-in-When-2 : goal.push_moved_act-returns-in_ok-push_moved-in-When-2
push_moved_act-returns-in_ok-push_moved-in-When-2 t c =
    when_pushed (number_in c.args.room) c.args.behind (halt_action c.args.halt) c.push-in-When.result c.args.made.now c.push-in-When.new.self c.args.act.now c.in-When.e c.into_inner-in-When.result c.in-When.a c.in-When.b _ _ c.in-When.is (search rules)
    (from_empty (number_in c.args.room) c.args.behind (halt_action c.args.halt) c.new-first.result c.as_slice.result.now c.in-When.a (actions_of c.push_moved.new.made) c.new-first.ensures c.as_slice.ensures c.in_ok-push_moved-in-When.ensures)
    (from_empty (number_in c.args.room) c.args.behind (halt_action c.args.halt) c.new-second.result c.as_slice-in-When.result.now c.in-When.b (actions_of c.push_moved-in-When.new.made) c.new-second.ensures c.as_slice-in-When.ensures c.in_ok-push_moved-in-When-2.ensures)
    c.push-in-When.ensures.ok
