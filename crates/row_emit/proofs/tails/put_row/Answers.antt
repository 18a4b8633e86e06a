use Rattle.std.proofs.Common.{◌∙◌}
use Rattle.row_emit.proofs.PrintedRows.{print_at}
use Rattle.row_emit.proofs.tails.put_row.Goals as goal

pub loop-v-preserved : goal.loop-v-preserved
loop-v-preserved c =
    print_at c.loop-v.block c.push.new.self c.args.vars.now c.loop-v.v-index c.loop-v-test.true c.in_ok-push.ensures.ok
    ∙ c.loop-v.invariant
