use Rattle.std.proofs.Common.{◌≡◌, ◌-◌, ◌++◌}
use Rattle.bench_pipeline.specs.Generator.{bench_items, items_behind}
use Rattle.bench_pipeline.proofs.values.bench_values.Given as goal

-- the items so far, and those behind the state, are all items
abbrev pub invariant-loop : goal.invariant-loop
invariant-loop l = l.items ++ items_behind l.x (l.count - l.counter) ≡ bench_items l.seed l.count
