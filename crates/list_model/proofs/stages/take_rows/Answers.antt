use Rattle.list_denotation.specs.Rows.{take_rows}
use Rattle.list_model.specs.Listed.{listed}
use Rattle.list_model.proofs.StageRows.{take_popped}
use Rattle.list_model.proofs.stages.take_rows.Goals as goal

pub past-preserved-in-past : goal.past-preserved-in-past
past-preserved-in-past c =
    take_popped c.pop.result c.args.k c.past.rows c.pop.new.self c.args.of.ending (take_rows c.args.k (listed c.args.of.rows c.args.of.ending))
    c.pop.ensures.none c.pop.ensures.last (rw c.len-in-past.ensures at c.past-test.true) c.past.invariant.1
