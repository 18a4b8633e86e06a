use Rattle.std.proofs.Common.{◌≡◌, drop}
use Rattle.std.specs.Prelude.{◌||◌}
use Rattle.loop_ir.specs.Statements.{join}
use Rattle.loop_ir.specs.StatementCopies.{block_of}
use Rattle.dead_code.specs.Ends.{block_ends, reached}
use Rattle.dead_code.proofs.reached.+reached.Given as goal

-- what is made, and then what is reached of the statements left, is what is to be made; and the run ends in the former
-- or in the latter, where it ends
abbrev pub invariant-push_reached-loop-i : goal.invariant-push_reached-loop-i
invariant-push_reached-loop-i l = record {
  whole : join (block_of l.made) (reached (block_of (drop l.i l.body))) ≡ join (block_of l.initial.made) (reached (block_of l.body));
  over : l.ends || block_ends (block_of (drop l.i l.body)) ≡ block_ends (block_of l.body);
}
