use Rattle.std.proofs.Common.{◌+◌, ◌*◌}
use Rattle.stateful_core.specs.CoreCopies.{action_of, actions_of}
use Rattle.word_uses.specs.Sizes.{action_size, actions_size}
use Rattle.turn_emit.proofs.turns.+turn.Given as goal

-- the acts that are left, those inside others included
abbrev pub decreases-put_acts : goal.decreases-put_acts
decreases-put_acts l = 8 * actions_size (actions_of l.acts.now) + 1

abbrev pub decreases-put_act : goal.decreases-put_act
decreases-put_act l = 8 * (action_size (action_of l.act.now) + actions_size (actions_of l.rest.now))

abbrev pub decreases-put_let : goal.decreases-put_let
decreases-put_let l = 8 * actions_size (actions_of l.rest.now) + 7

abbrev pub decreases-put_alias : goal.decreases-put_alias
decreases-put_alias l = 8 * actions_size (actions_of l.rest.now) + 2

abbrev pub decreases-put_bound : goal.decreases-put_bound
decreases-put_bound l = 8 * actions_size (actions_of l.rest.now) + 2

abbrev pub decreases-put_read : goal.decreases-put_read
decreases-put_read l = 8 * actions_size (actions_of l.rest.now) + 7

abbrev pub decreases-put_test : goal.decreases-put_test
decreases-put_test l = 8 * actions_size (actions_of l.rest.now) + 7

abbrev pub decreases-put_update : goal.decreases-put_update
decreases-put_update l = 8 * actions_size (actions_of l.rest.now) + 7

abbrev pub decreases-put_when : goal.decreases-put_when
decreases-put_when l =
    8 * (actions_size (actions_of l.choice.on.now) + actions_size (actions_of l.choice.off.now) + actions_size (actions_of l.rest.now)) + 7

abbrev pub decreases-put_pair : goal.decreases-put_pair
decreases-put_pair l = 8 * (actions_size (actions_of l.first.now) + actions_size (actions_of l.second.now)) + 2

abbrev pub decreases-put_rejoined : goal.decreases-put_rejoined
decreases-put_rejoined l =
    8 * (actions_size (actions_of l.choice.on.now) + actions_size (actions_of l.choice.off.now) + actions_size (actions_of l.rest.now)) + 5
