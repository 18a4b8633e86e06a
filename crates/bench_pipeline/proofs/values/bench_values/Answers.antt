use Rattle.std.proofs.Common.{arith}
use Rattle.std.proofs.lemmas.Grind.{common_steps}
use Rattle.bench_pipeline.proofs.Generator.{one_item_more}
use Rattle.bench_pipeline.proofs.values.bench_values.Goals as goal

pub loop-preserved : goal.loop-preserved
loop-preserved c =
    let more = one_item_more c.loop.items c.loop.x c.args.count c.loop.counter c.loop-test.true in
    grind (arith, common_steps, more)
