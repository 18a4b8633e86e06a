use Rattle.std.proofs.Common.{◌≡◌, drop}
use Rattle.loop_ir.specs.StatementCopies.{block_of}
use Rattle.dead_code.specs.Needs.{needs_of_block}
use Rattle.dead_code.proofs.needs.+needs.Given as goal

-- the marks are those that the statements from a place on need
abbrev pub invariant-mark_needs-loop-i : goal.invariant-mark_needs-loop-i
invariant-mark_needs-loop-i l = l.marks ≡ needs_of_block (block_of (drop l.i l.body)) l.initial.marks
