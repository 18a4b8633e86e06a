use Rattle.std.proofs.Common.{length, ap, ◌∙◌}
use Rattle.list_denotation.specs.Copies.{term_of, terms_of, finish_of}
use Rattle.stateful_core.specs.CoreCopies.{actions_of}
use Rattle.loop_emit.proofs.MadePrograms.{turn_at}
use Rattle.loop_emit.proofs.emission.machine_turn.Goals as goal

pub returns : goal.returns
returns c temps room held =
    let m = c.args.m.now in
    turn_at temps (terms_of m.init) (term_of m.guard) (actions_of m.acts) c.width-2.result (length (terms_of m.item)) (finish_of c.args.t.now) c.turn_for.result c.args.held.now
    (λ room held.
    c.turn_for.ensures temps (terms_of m.init) (term_of m.guard) (actions_of m.acts) room held
    (c.width.ensures ∙ ap (λ es. length (terms_of es)) c.as_slice.ensures))
    (c.width-2.ensures ∙ ap (λ es. length (terms_of es)) c.as_slice-2.ensures) room held
