use Rattle.std.proofs.Common.{◌≡◌, ◌∙◌, ◌++◌, None, sym, ap, rules}
use Rattle.expr_values.specs.Results.{got_of}
use Rattle.list_denotation.specs.Copies.{terms_of}
use Rattle.list_denotation.specs.Values.{Trap, row_value}
use Rattle.list_model.proofs.EventSteps.{fold_step, fold_fault}
use Rattle.list_model.proofs.observation.fold_rows.Goals as goal

pub returns-in_default : goal.returns-in_default
returns-in_default c =
    let bound = c.in_ok-bound.ensures in
    let none : c.in_ok-after.field-0 ≡ None = search rules in
    c.failed.ensures
    ∙ (sym (fold_fault (λ s r. row_value (terms_of c.args.next.now) (s ++ r) c.args.inputs.now) c.args.rows.now.rows c.args.rows.now.ending c.loop-i.i
    c.loop-i.state c.get.result.now Trap c.get.ensures (rw bound at (c.in_ok-after.ensures ∙ ap got_of none)))
    ∙ c.loop-i.invariant)

pub loop-i-preserved : goal.loop-i-preserved
loop-i-preserved c =
    let bound = c.in_ok-bound.ensures in
    fold_step (λ s r. row_value (terms_of c.args.next.now) (s ++ r) c.args.inputs.now) c.args.rows.now.rows c.args.rows.now.ending c.loop-i.i
    c.loop-i.state c.get.result.now c.in-Some.after c.get.ensures (rw bound at (c.in_ok-after.ensures ∙ ap got_of c.in-Some.is))
    ∙ c.loop-i.invariant
