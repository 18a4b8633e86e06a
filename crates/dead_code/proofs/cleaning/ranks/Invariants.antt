use Rattle.std.proofs.Common.{◌≡◌, ◌≤◌, ◌++◌, drop}
use Rattle.dead_code.specs.Live.{ranks_from, ranks}
use Rattle.dead_code.proofs.cleaning.ranks.Given as goal

-- the numbers so far, and then those of the variables left, are all
abbrev pub invariant-loop-m : goal.invariant-loop-m
invariant-loop-m l = record {
  few : l.next ≤ l.m-index;
  whole : l.numbers.items ++ ranks_from l.next (drop l.m-index l.marks) ≡ ranks l.marks;
}
