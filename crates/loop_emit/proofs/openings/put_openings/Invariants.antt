use Rattle.std.proofs.Common.{◌≡◌, ◌+◌, drop}
use Rattle.list_denotation.specs.Copies.{terms_of}
use Rattle.loop_ir.specs.Statements.{join}
use Rattle.loop_ir.specs.StatementCopies.{block_of}
use Rattle.loop_emit.specs.Emission.{openings}
use Rattle.loop_emit.proofs.openings.put_openings.Given as goal

abbrev pub invariant-loop-i : goal.invariant-loop-i
invariant-loop-i l = join (block_of l.block) (openings (terms_of (drop l.i l.es)) (l.first + l.i)) ≡ join (block_of l.fn.block) (openings (terms_of l.es) l.first)
