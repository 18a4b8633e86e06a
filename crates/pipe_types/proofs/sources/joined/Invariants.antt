use Rattle.std.proofs.Common.{◌≡◌, ◌++◌, take}
use Rattle.pipe_types.proofs.sources.joined.Given as goal

abbrev pub invariant-loop-kind : goal.invariant-loop-kind
invariant-loop-kind l = l.kinds ≡ l.fn.left ++ take l.kind-index l.right
