use Rattle.std.proofs.Common.{◌≡◌, replicate}
use Rattle.loop_interp.proofs.room.registers.Given as goal

-- as many words as were counted, all 0
abbrev pub invariant-loop : goal.invariant-loop
invariant-loop l = l.words ≡ replicate l.counter 0
