use Rattle.std.proofs.Common.{◌≡◌, ◌≤◌, ◌-◌, length, drop, true}
use Rattle.c_lexer.specs.Comments.{IsUnclosed}
use Rattle.c_lexer.proofs.Passing.{HasPassed}
use Rattle.c_lexer.proofs.faults.first_fault.Given as goal

abbrev pub invariant-loop-from : goal.invariant-loop-from
invariant-loop-from l = record {
  within : l.from ≤ length l.text;
  passed : HasPassed l.text l.from;
  unclosed : l.is_open ≡ true → IsUnclosed (drop l.from l.text);
}

abbrev pub decreases-loop-from : goal.decreases-loop-from
decreases-loop-from l = length l.text - l.from
