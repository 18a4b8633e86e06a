use Rattle.std.proofs.Common.{◌≡◌, take, replicate, length}
use Rattle.loop_interp.proofs.running.clear.Given as goal

-- the variables before this one are 0
abbrev pub invariant-loop-i : goal.invariant-loop-i
invariant-loop-i l = record {
  zero : take l.i l.words ≡ replicate l.i 0;
  same : length l.words ≡ length l.initial.words;
}
