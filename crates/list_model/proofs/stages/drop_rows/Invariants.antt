use Rattle.std.proofs.Common.{◌≡◌, drop, ◌++◌}
use Rattle.list_model.proofs.stages.drop_rows.Given as goal

abbrev pub invariant-loop-i : goal.invariant-loop-i
invariant-loop-i l = l.rows ++ drop l.i l.of.rows ≡ drop l.k l.of.rows
