use Rattle.std.proofs.Common.{◌+◌, ◌*◌}
use Rattle.loop_ir.specs.StatementCopies.{operand_of}
use Rattle.loop_interp.specs.Sizes.{operand_size}
use Rattle.loop_interp.proofs.operands.+operands.Given as goal

abbrev pub decreases-operand : goal.decreases-operand
decreases-operand l = 2 * operand_size (operand_of l.w.now)

abbrev pub decreases-both : goal.decreases-both
decreases-both l = 2 * (operand_size (operand_of l.a.now) + operand_size (operand_of l.b.now)) + 1
