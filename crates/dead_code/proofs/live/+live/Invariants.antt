use Rattle.std.proofs.Common.{◌≡◌, drop}
use Rattle.loop_ir.specs.Statements.{join}
use Rattle.loop_ir.specs.StatementCopies.{block_of}
use Rattle.dead_code.specs.Live.{live}
use Rattle.dead_code.proofs.live.+live.Given as goal

-- what is made, and then what is live of the statements left, is what is to be made
abbrev pub invariant-push_live-loop-s : goal.invariant-push_live-loop-s
invariant-push_live-loop-s l =
    join (block_of l.made) (live l.kept.marks.items l.kept.numbers.items (block_of (drop l.s-index l.body)))
    ≡ join (block_of l.initial.made) (live l.kept.marks.items l.kept.numbers.items (block_of l.body))
