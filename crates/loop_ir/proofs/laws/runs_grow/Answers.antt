use Rattle.loop_ir.proofs.Ahead.{grows}
use Rattle.loop_ir.proofs.laws.runs_grow.Goals as goal

pub returns : goal.returns
returns c = grows
