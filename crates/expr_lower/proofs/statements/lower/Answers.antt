-- What holds of what is appended holds of all statements, since there are none before.
use Rattle.std.proofs.Common.{ap}
use Rattle.list_denotation.specs.Copies.{term_of}
use Rattle.loop_ir.specs.StatementCopies.{block_of}
use Rattle.expr_lower.specs.Contract.{scope_of, PutsValue}
use Rattle.expr_lower.proofs.Contract.{of_all}
use Rattle.expr_lower.proofs.statements.lower.Goals as goal

pub returns-clause-puts : goal.returns-clause-puts
returns-clause-puts c =
    let into = c.in_ok-lower_into.ensures in
    of_all (PutsValue (scope_of c.args.slots.now) (term_of c.args.e.now) c.args.target) (block_of c.lower_into.new.block) (block_of c.new-block.result) _
    into.block (ap block_of c.new-block.ensures)
    (record { gives = into.gives c.requires.target; names = into.names; few = into.few; no_loops = into.no_loops; constants = into.constants })
