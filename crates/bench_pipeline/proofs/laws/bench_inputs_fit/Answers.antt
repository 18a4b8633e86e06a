use Rattle.std.proofs.Common.{arith}
use Rattle.bench_pipeline.proofs.Generator.{items_are_low, items_number}
use Rattle.bench_pipeline.proofs.laws.bench_inputs_fit.Goals as goal

pub returns : goal.returns
returns c seed count few = (((λ k d less. omega (arith, items_are_low seed count k d less)), omega (arith, items_number seed count, few)), tt)
