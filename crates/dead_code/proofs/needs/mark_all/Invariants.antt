use Rattle.std.proofs.Common.{◌≡◌, ◌+◌, ◌-◌, length}
use Rattle.loop_ir.specs.StatementCopies.{block_of}
use Rattle.dead_code.specs.Needs.{needs_in}
use Rattle.dead_code.proofs.needs.mark_all.Given as goal

-- the passes that are left lead from the marks so far to those of all passes
abbrev pub invariant-loop : goal.invariant-loop
invariant-loop l =
    needs_in (length l.initial.marks + 1 - l.counter) (block_of l.body) l.marks
    ≡ needs_in (length l.initial.marks + 1) (block_of l.body) l.initial.marks
