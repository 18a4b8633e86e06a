use Rattle.std.proofs.Common.{sym, ap, ◌∙◌, subst, arith}
use Rattle.list_denotation.specs.InputNames.{declared_inputs}
use Rattle.list_denotation.specs.Pipelines.{pipeline_of}
use Rattle.stateful_core.specs.CoreCopies.{core_term_of}
use Rattle.stateful_core.specs.CorePromise.{IsCoreOf}
use Rattle.stateful_core.specs.CoreTerms.{CoreTerm}
use Rattle.stateful_core.proofs.CoreKept.{core_scoped, core_kept}
use Rattle.stateful_core.proofs.program_core.core_of.Goals as goal

pub core_at-requires-clause-scoped : goal.core_at-requires-clause-scoped
core_at-requires-clause-scoped c =
    let p = c.args.p.now in (declared_inputs p.inputs, core_scoped c.laws_below.ensures p p.typed p.words)

pub core_at-requires-clause-room : goal.core_at-requires-clause-room
core_at-requires-clause-room c =
    let p = c.args.p.now in
    let limits = c.laws_below.ensures.limits p.inputs p.stream p.terminal p.typed in
    omega (arith, limits.few_ops)

pub returns : goal.returns
returns c =
    let p = c.args.p.now in
    subst (λ (t : CoreTerm). IsCoreOf (pipeline_of p) t) (sym (ap core_term_of c.into_inner.ensures ∙ c.in_ok-core_at.ensures))
    (core_kept c.laws_below.ensures p p.typed p.words)
