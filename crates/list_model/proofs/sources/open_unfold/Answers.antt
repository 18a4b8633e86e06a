use Rattle.list_denotation.specs.Copies.{term_of, terms_of}
use Rattle.list_denotation.specs.Denotation.{denotation}
use Rattle.list_denotation.specs.Terms.{Unfold}
use Rattle.list_model.proofs.SourceBounds.{unfold_source_bounded, opened_rows, opened_work, opened_too_much}
use Rattle.list_model.proofs.sources.open_unfold.Goals as goal

pub returns-clause-rows : goal.returns-clause-rows
returns-clause-rows c =
    opened_rows (denotation (Unfold (terms_of c.args.seed.now) (term_of c.args.guard.now) (terms_of c.args.item.now) (terms_of c.args.next.now)) c.args.env.now c.args.inputs.now) (unfold_source_bounded c.args.env.now c.args.inputs.now (terms_of c.args.seed.now) (term_of c.args.guard.now) (terms_of c.args.item.now) (terms_of c.args.next.now)) c.in_ok-rows.rows c.args.n c.args.room.now (rw c.min.ensures at c.in_ok-rows.ensures)
    c.opened.result c.opened.new.room c.opened.ensures.same c.opened.ensures.work

pub returns-clause-work : goal.returns-clause-work
returns-clause-work c =
    opened_work (denotation (Unfold (terms_of c.args.seed.now) (term_of c.args.guard.now) (terms_of c.args.item.now) (terms_of c.args.next.now)) c.args.env.now c.args.inputs.now) (unfold_source_bounded c.args.env.now c.args.inputs.now (terms_of c.args.seed.now) (term_of c.args.guard.now) (terms_of c.args.item.now) (terms_of c.args.next.now)) c.in_ok-rows.rows c.args.n c.args.room.now (rw c.min.ensures at c.in_ok-rows.ensures)
    c.opened.result c.opened.new.room c.opened.ensures.work

pub returns-clause-too_much : goal.returns-clause-too_much
returns-clause-too_much c =
    opened_too_much (denotation (Unfold (terms_of c.args.seed.now) (term_of c.args.guard.now) (terms_of c.args.item.now) (terms_of c.args.next.now)) c.args.env.now c.args.inputs.now) (unfold_source_bounded c.args.env.now c.args.inputs.now (terms_of c.args.seed.now) (term_of c.args.guard.now) (terms_of c.args.item.now) (terms_of c.args.next.now)) c.in_ok-rows.rows c.args.n c.args.room.now (rw c.min.ensures at c.in_ok-rows.ensures)
    c.opened.result c.opened.ensures.too_much
