use Rattle.std.proofs.Common.{◌≡◌, ◌-◌, ◌^◌, ◌≤◌, drop}
use Rattle.loop_ir.specs.StatementCopies.{block_of}
use Rattle.loop_ir.specs.Counts.{joint_count, block_measure, up_to_most}
use Rattle.loop_ir.proofs.counts.+measures.Given as goal

-- the count so far is a word, and with that of the statements left it is the count of all
abbrev pub invariant-block_measure-loop-s : goal.invariant-block_measure-loop-s
invariant-block_measure-loop-s l = record {
  within : l.n ≤ 2 ^ 64 - 1;
  whole : up_to_most (joint_count l.what l.n (block_measure l.what (block_of (drop l.s-index l.body))))
      ≡ up_to_most (block_measure l.what (block_of l.body));
}
