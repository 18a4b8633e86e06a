use Rattle.std.proofs.Common.{◌≡◌, drop}
use Rattle.loop_ir.specs.StatementCopies.{block_of}
use Rattle.loop_ir.specs.Counts.{block_loops}
use Rattle.dead_code.proofs.reached.+loops.Given as goal

-- the statements so far have no loop
abbrev pub invariant-have_no_loop-loop-s : goal.invariant-have_no_loop-loop-s
invariant-have_no_loop-loop-s l = block_loops (block_of (drop l.s-index l.body)) ≡ block_loops (block_of l.body)
