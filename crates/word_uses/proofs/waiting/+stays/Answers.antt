use Rattle.std.proofs.Common.{ap, ◌∙◌}
use Rattle.list_denotation.specs.Copies.{terms_of}
use Rattle.stateful_core.specs.CoreCopies.{action_of, actions_of}
use Rattle.turn_blocks.specs.WordUses.{may_wait}
use Rattle.stateful_core.proofs.ActCopies.{update_copy}
use Rattle.word_uses.proofs.WordUses.{stays_else}
use Rattle.word_uses.proofs.waiting.+stays.Goals as goal

pub stays_over-returns-else-leaves : goal.stays_over-returns-else-leaves
stays_over-returns-else-leaves t c =
    stays_else c.args.place.scope c.args.place.states c.args.j (action_of c.args.act.now) c.in-Update.k (terms_of c.in-Update.es) (actions_of c.args.rest.now) c.may_wait.result
    (ap action_of c.in-Update.is ∙ update_copy c.in-Update.k c.in-Update.es) (cc)
    (c.may_wait.ensures ∙ ap (λ es. may_wait c.args.place.scope c.args.place.states c.in-Update.k (terms_of es) (actions_of c.args.rest.now)) c.as_slice-else-leaves.ensures)
