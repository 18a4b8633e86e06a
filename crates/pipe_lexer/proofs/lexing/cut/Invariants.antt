use Rattle.std.proofs.Common.{length, ◌-◌, ◌≤◌}
use Rattle.pipe_lexer.proofs.Passing.{HasPassed}
use Rattle.pipe_lexer.proofs.lexing.cut.Given as goal

abbrev pub invariant-loop-from : goal.invariant-loop-from
invariant-loop-from l = record {
  within : l.from ≤ length l.chars;
  passed : HasPassed l.chars l.from l.at l.found;
}

abbrev pub decreases-loop-from : goal.decreases-loop-from
decreases-loop-from l = length l.chars - l.from
