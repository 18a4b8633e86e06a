use Rattle.std.proofs.Common.{◌≡◌, drop}
use Rattle.loop_ir.specs.StatementCopies.{block_of}
use Rattle.dead_code.specs.Needs.{are_idle}
use Rattle.dead_code.proofs.needs.+idle.Given as goal

-- the statements so far are idle
abbrev pub invariant-are_idle-loop-s : goal.invariant-are_idle-loop-s
invariant-are_idle-loop-s l = are_idle l.marks (block_of (drop l.s-index l.body)) ≡ are_idle l.marks (block_of l.body)
