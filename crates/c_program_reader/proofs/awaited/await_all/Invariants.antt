use Rattle.std.proofs.Common.{◌≡◌, ◌≤◌, length, drop}
use Rattle.c_program_reader.proofs.awaited.await_all.Given as goal

abbrev pub decreases-loop : goal.decreases-loop
decreases-loop l = length l.awaited

abbrev pub invariant-loop-left : goal.invariant-loop-left
invariant-loop-left l = (l.left ≤ length l.tokens) × (l.awaited ≡ drop l.left l.tokens)

abbrev pub decreases-loop-left : goal.decreases-loop-left
decreases-loop-left l = l.left
