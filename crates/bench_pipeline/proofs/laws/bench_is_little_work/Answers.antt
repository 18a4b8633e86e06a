use Rattle.std.proofs.Common.{◌+◌, arith}
use Rattle.bench_pipeline.specs.Generator.{bench_items}
use Rattle.bench_pipeline.proofs.Works.{work_is_little}
use Rattle.bench_pipeline.proofs.Generator.{items_are_low, items_number}
use Rattle.bench_pipeline.proofs.laws.bench_is_little_work.Goals as goal

pub returns : goal.returns
returns c seed count =
    let little = work_is_little (bench_items seed count) (count + 3) (items_are_low seed count) (omega (arith, items_number seed count)) (omega arith) in
    omega (arith, little, items_number seed count)
