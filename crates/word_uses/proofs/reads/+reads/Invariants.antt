use Rattle.std.proofs.Common.{◌+◌, ◌*◌}
use Rattle.stateful_core.specs.CoreCopies.{action_of, actions_of}
use Rattle.word_uses.specs.Sizes.{action_size, actions_size}
use Rattle.word_uses.proofs.reads.+reads.Given as goal

abbrev pub decreases-are_unread : goal.decreases-are_unread
decreases-are_unread l = 2 * actions_size (actions_of l.acts.now) + 1

abbrev pub decreases-act_is_unread : goal.decreases-act_is_unread
decreases-act_is_unread l = 2 * action_size (action_of l.act.now)
