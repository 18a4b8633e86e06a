use Rattle.std.proofs.Common.{rules, ◌∙◌}
use Rattle.act_moves.specs.WordRoom.{number_in, most_in}
use Rattle.act_moves.proofs.MadeRows.{row_step, row_below}
use Rattle.act_moves.proofs.renumbering.renumber_row.Goals as goal

pub renumber-requires : goal.renumber-requires
renumber-requires c = (row_below (most_in c.args.room) c.args.es.now c.loop-i.i c.get.result.now c.get.ensures c.loop-i.invariant.below).0

pub loop-i-preserved : goal.loop-i-preserved
loop-i-preserved c = record {
  whole = rw c.in_ok-push.ensures.ok (row_step (number_in c.args.room) c.loop-i.made c.args.es.now c.loop-i.i c.get.result.now c.into_inner.result c.get.ensures (search rules) ∙ c.loop-i.invariant.whole);
  below = (row_below (most_in c.args.room) c.args.es.now c.loop-i.i c.get.result.now c.get.ensures c.loop-i.invariant.below).1;
}
