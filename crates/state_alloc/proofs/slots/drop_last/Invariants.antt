use Rattle.std.proofs.Common.{◌≡◌, ◌-◌, length, take}
use Rattle.state_alloc.proofs.slots.drop_last.Given as goal

abbrev pub invariant-loop-i : goal.invariant-loop-i
invariant-loop-i l = l.rows ≡ take (length l.initial.rows - l._i) l.initial.rows
