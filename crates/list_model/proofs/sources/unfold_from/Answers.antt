use Rattle.std.proofs.Common.{◌∙◌, ◌++◌, ap}
use Rattle.expr_values.specs.Results.{got_of}
use Rattle.list_denotation.specs.Copies.{term_of, terms_of}
use Rattle.list_denotation.specs.Values.{value, row_value}
use Rattle.list_model.proofs.SourceRows.{unfold_step}
use Rattle.list_model.proofs.sources.unfold_from.Goals as goal

pub states-preserved : goal.states-preserved
states-preserved c =
    let b = c.in_ok-bound.ensures in
    rw c.in_ok-push.ensures.ok
    (unfold_step (λ s. value (term_of c.args.guard.now) (c.args.env.now ++ s) c.args.inputs.now) (λ s. row_value (terms_of c.args.item.now) (c.args.env.now ++ s) c.args.inputs.now) (λ s. row_value (terms_of c.args.next.now) (c.args.env.now ++ s) c.args.inputs.now)
    c.states.rows c.states.left c.states.state c.in-Some.goes_on c.in-Some-2.row c.in-Some-3.after
    (rw b at (c.value.ensures ∙ ap got_of c.in-Some.is)) c.if-goes_on-eq0.false c.if-left-eq0.false
    (rw b at (c.in_ok-row.ensures ∙ ap got_of c.in-Some-2.is)) (rw b at (c.in_ok-after.ensures ∙ ap got_of c.in-Some-3.is))
    ∙ c.states.invariant)
