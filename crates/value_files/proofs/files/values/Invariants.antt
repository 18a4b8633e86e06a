use Rattle.std.proofs.Common.{length, ◌-◌, ◌≤◌}
use Rattle.value_files.proofs.Passing.{HasPassed}
use Rattle.value_files.proofs.files.values.Given as goal

abbrev pub invariant-loop-from : goal.invariant-loop-from
invariant-loop-from l = record {
  within : l.from ≤ length l.bytes;
  passed : HasPassed l.bytes l.from l.found;
}

abbrev pub decreases-loop-from : goal.decreases-loop-from
decreases-loop-from l = length l.bytes - l.from
