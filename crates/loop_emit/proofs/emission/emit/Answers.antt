use Rattle.std.proofs.Common.{sym, subst}
use Rattle.std.proofs.lemmas.Result.{IfOk-weaker}
use Rattle.list_denotation.specs.Pipelines.{pipeline_of}
use Rattle.headline.specs.Headline.{IsEmitted}
use Rattle.loop_ir.specs.StatementCopies.{routine_from}
use Rattle.loop_emit.proofs.LivePrograms.{live_emitted}
use Rattle.loop_emit.proofs.emission.emit.Goals as goal

pub returns : goal.returns
returns c =
    let p = pipeline_of c.args.p.now in
    let whole = c.in_ok-whole.whole in
    IfOk-weaker c.without_dead_code.result _ _
    (λ q is. subst (IsEmitted p) (sym is) (live_emitted c.laws_below.ensures p (routine_from whole.params whole.vars whole.body) c.in_ok-whole.ensures))
    c.without_dead_code.ensures
