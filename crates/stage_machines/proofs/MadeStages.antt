-- Acts of stages that the code appends one by one, and local words that it counts.
use Rattle.std.proofs.Common.{◌≡◌, ℕ, ◌+◌, ◌<◌, ◌≤◌, List, length, drop, get_or, ap, ◌∙◌}
use Rattle.std.proofs.lemmas.List.{drop_all}
use Rattle.list_denotation.specs.Terms.{Term}
use Rattle.stateful_core.specs.declared.core_term.Act.{Act}
use Rattle.stateful_core.specs.CoreCopies.{action_of, actions_of}
use Rattle.stateful_core.specs.CoreShapes.{action_locals, actions_locals}
use Rattle.stateful_core.specs.CoreTerms.{Actions, Nil, join}
use Rattle.stateful_core.specs.StreamCores.{let_all}
use Rattle.stateful_core.proofs.ActCopies.{join_join}
use Rattle.stateful_core.proofs.AppendedActs.{lets_join}
use Rattle.act_moves.proofs.MadeActs.{at_index}

-- the acts of a machine, then a row, and then the acts of a stage
pub stage_joined : (lower : Actions) (row es : List Term) (upper first second third : Actions) → first ≡ lower → row ≡ es → second ≡ join first (let_all row Nil) → third ≡ join second upper → third ≡ join lower (let_all es upper)
stage_joined lower row es upper first second third f r s t =
    t ∙ ap (λ z. join z upper) (s ∙ ap (λ z. join z (let_all row Nil)) f ∙ ap (λ z. join lower (let_all z Nil)) r)
    ∙ join_join lower (let_all es Nil) upper ∙ ap (join lower) (lets_join es upper)

-- ---- local words

pub local_step : (acts : List Act) (i : ℕ) (a : Act) → i < length acts → a ≡ get_or acts i a → actions_locals (actions_of (drop i acts)) ≡ action_locals (action_of a) + actions_locals (actions_of (drop (i + 1) acts))
local_step acts i a h is = ap (λ z. actions_locals (actions_of z)) (at_index acts i a h is)

pub local_end : (acts : List Act) (i : ℕ) → length acts ≤ i → actions_locals (actions_of (drop i acts)) ≡ 0
local_end acts i h = ap (λ z. actions_locals (actions_of z)) (drop_all i acts h)

pub ruleset local_steps = (local_step, local_end)
