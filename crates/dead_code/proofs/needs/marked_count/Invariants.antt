use Rattle.std.proofs.Common.{◌≡◌, ◌+◌, ◌≤◌, drop}
use Rattle.dead_code.specs.Live.{marked_count}
use Rattle.dead_code.proofs.needs.marked_count.Given as goal

-- with the marks that are left, the count so far is that of all
abbrev pub invariant-loop-m : goal.invariant-loop-m
invariant-loop-m l = record {
  few : l.count ≤ l.m-index;
  whole : l.count + marked_count (drop l.m-index l.marks) ≡ marked_count l.marks;
}
