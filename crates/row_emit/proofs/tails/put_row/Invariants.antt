use Rattle.std.proofs.Common.{◌≡◌, drop}
use Rattle.loop_ir.specs.Statements.{join}
use Rattle.loop_ir.specs.StatementCopies.{block_of}
use Rattle.turn_blocks.specs.Consumers.{print_block}
use Rattle.row_emit.proofs.tails.put_row.Given as goal

abbrev pub invariant-loop-v : goal.invariant-loop-v
invariant-loop-v l = join (block_of l.block) (print_block (drop l.v-index l.vars)) ≡ join (block_of l.fn.block) (print_block l.vars)
