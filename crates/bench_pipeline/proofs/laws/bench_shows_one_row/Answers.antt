use Rattle.std.proofs.Common.{◌+◌, arith}
use Rattle.bench_pipeline.specs.Generator.{bench_items}
use Rattle.bench_pipeline.proofs.Arms.{one_row_is_seen}
use Rattle.bench_pipeline.proofs.Generator.{items_are_low, items_number}
use Rattle.bench_pipeline.proofs.laws.bench_shows_one_row.Goals as goal

pub returns : goal.returns
returns c seed count =
    one_row_is_seen (bench_items seed count) (count + 3) (items_are_low seed count) (omega (arith, items_number seed count)) (omega arith)
