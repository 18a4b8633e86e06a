use Rattle.std.proofs.Common.{◌∙◌, ◌++◌, ap}
use Rattle.expr_values.specs.Results.{got_of}
use Rattle.list_denotation.specs.Copies.{terms_of}
use Rattle.list_denotation.specs.Values.{row_value}
use Rattle.list_model.proofs.StageRows.{scan_step}
use Rattle.list_model.proofs.stages.scan_rows.Goals as goal

pub loop-i-preserved : goal.loop-i-preserved
loop-i-preserved c =
    let own = c.in_ok-own.ensures in
    let bound = c.in_ok-bound.ensures in
    rw c.in_ok-push.ensures.ok
    (scan_step c.loop-i.rows c.args.of.now.rows c.args.of.now.ending c.loop-i.i
    (λ s r. row_value (terms_of c.args.next.now) (c.args.env.now ++ (s ++ r)) c.args.inputs.now)
    c.loop-i.state c.get.result.now c.in-Some.after c.in_ok-from_slice.field-0 c.get.ensures
    (rw own at (rw bound at (c.in_ok-after.ensures ∙ ap got_of c.in-Some.is))) (c.in_ok-from_slice.ensures ∙ c.as_slice.ensures)
    ∙ c.loop-i.invariant)
