use Rattle.std.proofs.Common.{◌+◌, ◌*◌}
use Rattle.stateful_core.specs.CoreCopies.{action_of, actions_of}
use Rattle.word_uses.specs.Sizes.{action_size, actions_size}
use Rattle.word_uses.proofs.writes.+writes.Given as goal

abbrev pub decreases-actions_keep : goal.decreases-actions_keep
decreases-actions_keep l = 2 * actions_size (actions_of l.acts.now) + 1

abbrev pub decreases-action_keeps : goal.decreases-action_keeps
decreases-action_keeps l = 2 * action_size (action_of l.act.now)
