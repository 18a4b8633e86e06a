use Rattle.std.proofs.Common.{◌≡◌, drop}
use Rattle.loop_ir.specs.Statements.{join}
use Rattle.loop_ir.specs.StatementCopies.{block_of}
use Rattle.dead_code.specs.FirstZeros.{without_first_zeros}
use Rattle.dead_code.specs.Live.{live}
use Rattle.dead_code.proofs.cleaning.push_live_body.Given as goal

-- what is made, and then what is live of the statements left, is what is to be made
abbrev pub invariant-loop-s : goal.invariant-loop-s
invariant-loop-s l =
    join (block_of l.made) (live l.kept.marks.items l.kept.numbers.items (without_first_zeros l.marks (block_of (drop l.s-index l.body))))
    ≡ join (block_of l.initial.made) (live l.kept.marks.items l.kept.numbers.items (without_first_zeros l.initial.marks (block_of l.body)))
