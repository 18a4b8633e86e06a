use Rattle.list_denotation.specs.Denotation.{denotation}
use Rattle.list_denotation.specs.Terms.{Array}
use Rattle.list_model.proofs.SourceBounds.{array_bounded, opened_rows, opened_work, opened_too_much}
use Rattle.list_model.proofs.sources.open_array.Goals as goal

pub returns-clause-rows : goal.returns-clause-rows
returns-clause-rows c =
    opened_rows (denotation (Array c.args.k) c.args.env.now c.args.inputs.now) (array_bounded c.args.env.now c.args.inputs.now c.args.k) c.in_ok-rows.rows c.args.n c.args.room.now (rw c.min.ensures at c.in_ok-rows.ensures)
    c.opened.result c.opened.new.room c.opened.ensures.same c.opened.ensures.work

pub returns-clause-work : goal.returns-clause-work
returns-clause-work c =
    opened_work (denotation (Array c.args.k) c.args.env.now c.args.inputs.now) (array_bounded c.args.env.now c.args.inputs.now c.args.k) c.in_ok-rows.rows c.args.n c.args.room.now (rw c.min.ensures at c.in_ok-rows.ensures)
    c.opened.result c.opened.new.room c.opened.ensures.work

pub returns-clause-too_much : goal.returns-clause-too_much
returns-clause-too_much c =
    opened_too_much (denotation (Array c.args.k) c.args.env.now c.args.inputs.now) (array_bounded c.args.env.now c.args.inputs.now c.args.k) c.in_ok-rows.rows c.args.n c.args.room.now (rw c.min.ensures at c.in_ok-rows.ensures)
    c.opened.result c.opened.ensures.too_much
