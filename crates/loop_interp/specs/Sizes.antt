-- The operands in an operand, itself included.
use Rattle.std.specs.Prelude.{ℕ, ◌+◌}
use Rattle.loop_ir.specs.Statements.{Operand, Const, Var, Len, Int, Bin}

abbrev pub operand_size : Operand → ℕ
operand_size (Const n) = 1
operand_size (Var v) = 1
operand_size (Len a) = 1
operand_size (Int k) = 1
operand_size (Bin op a b) = operand_size a + operand_size b + 1
