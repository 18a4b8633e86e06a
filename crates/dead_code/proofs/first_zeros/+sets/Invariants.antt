use Rattle.std.proofs.Common.{◌≡◌, drop}
use Rattle.loop_ir.specs.StatementCopies.{block_of}
use Rattle.dead_code.specs.FirstZeros.{with_sets}
use Rattle.dead_code.proofs.first_zeros.+sets.Given as goal

-- with what the statements left set, the marks are those with what all set
abbrev pub invariant-mark_sets-loop-s : goal.invariant-mark_sets-loop-s
invariant-mark_sets-loop-s l = with_sets (block_of (drop l.s-index l.body)) l.marks ≡ with_sets (block_of l.body) l.initial.marks
