use Rattle.list_denotation.specs.Copies.{term_of}
use Rattle.list_denotation.specs.Denotation.{denotation}
use Rattle.list_denotation.specs.Terms.{Range}
use Rattle.list_model.proofs.SourceBounds.{range_bounded, opened_rows, opened_work, opened_too_much}
use Rattle.list_model.proofs.sources.open_range.Goals as goal

pub returns-clause-rows : goal.returns-clause-rows
returns-clause-rows c =
    opened_rows (denotation (Range (term_of c.args.low.now) (term_of c.args.high.now)) c.args.env.now c.args.inputs.now) (range_bounded c.args.env.now c.args.inputs.now (term_of c.args.low.now) (term_of c.args.high.now)) c.in_ok-rows.rows c.args.n c.args.room.now (rw c.min.ensures at c.in_ok-rows.ensures)
    c.opened.result c.opened.new.room c.opened.ensures.same c.opened.ensures.work

pub returns-clause-work : goal.returns-clause-work
returns-clause-work c =
    opened_work (denotation (Range (term_of c.args.low.now) (term_of c.args.high.now)) c.args.env.now c.args.inputs.now) (range_bounded c.args.env.now c.args.inputs.now (term_of c.args.low.now) (term_of c.args.high.now)) c.in_ok-rows.rows c.args.n c.args.room.now (rw c.min.ensures at c.in_ok-rows.ensures)
    c.opened.result c.opened.new.room c.opened.ensures.work

pub returns-clause-too_much : goal.returns-clause-too_much
returns-clause-too_much c =
    opened_too_much (denotation (Range (term_of c.args.low.now) (term_of c.args.high.now)) c.args.env.now c.args.inputs.now) (range_bounded c.args.env.now c.args.inputs.now (term_of c.args.low.now) (term_of c.args.high.now)) c.in_ok-rows.rows c.args.n c.args.room.now (rw c.min.ensures at c.in_ok-rows.ensures)
    c.opened.result c.opened.ensures.too_much
