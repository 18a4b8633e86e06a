use Rattle.std.proofs.Common.{◌∙◌}
use Rattle.state_alloc.proofs.Scopes.{pushed_variable, given_up, can_give_up}
use Rattle.state_alloc.proofs.slots.push_variables.Goals as goal

pub drop_last-requires : goal.drop_last-requires
drop_last-requires c = can_give_up c.args.rows.now c.push.new.self c.args.first c.loop-i.i (c.in-Err.ensures.err ∙ c.loop-i.invariant)

pub returns-in-Err-clause-err : goal.returns-in-Err-clause-err
returns-in-Err-clause-err c = c.drop_last.ensures ∙ given_up c.args.rows.now c.push.new.self c.args.first c.loop-i.i (c.in-Err.ensures.err ∙ c.loop-i.invariant)

pub loop-i-preserved : goal.loop-i-preserved
loop-i-preserved c =
    pushed_variable c.args.rows.now c.loop-i.rows c.push.new.self c.args.first c.loop-i.i c.from.result c.from.ensures c.loop-i.invariant c.in_default.ensures.ok
