use Rattle.list_denotation.proofs.Limits.{row_part}
use Rattle.list_denotation.proofs.counts.row_measure.Goals as goal

pub term_measure-requires : goal.term_measure-requires
term_measure-requires c =
    row_part c.args.what c.args.row.now c.loop-i.i c.get.result.now c.loop-i.counted _ c.get.ensures c.loop-i.invariant c.requires
