use Rattle.std.proofs.lemmas.List.{map_push}
use Rattle.loop_ir.specs.StatementCopies.{statement_of}
use Rattle.c_program_reader.proofs.LastReturns.{before_last}
use Rattle.c_program_reader.proofs.statements.take_return.Goals as goal

pub returns-in-Some : goal.returns-in-Some
returns-in-Some c =
    rw (c.in-Some.ensures.last, map_push statement_of c.pop.new.self c.in-Some.last) (before_last _ _ _ c.returns_done-done.ensures)
