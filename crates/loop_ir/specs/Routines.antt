-- The plain copy of a loop program. It stands apart, since a program's own fact cites the other copies.
use Rattle.loop_ir.specs.declared.program.Prog.{Prog}
use Rattle.loop_ir.specs.Statements.{Routine}
use Rattle.loop_ir.specs.StatementCopies.{routine_from}

abbrev pub routine_of : Prog → Routine
routine_of q = routine_from q.params q.vars q.body
