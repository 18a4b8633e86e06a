use Rattle.std.proofs.Common.{◌+◌, ◌*◌}
use Rattle.stateful_core.specs.CoreCopies.{action_of, actions_of}
use Rattle.word_uses.specs.Sizes.{action_size, actions_size}
use Rattle.word_uses.proofs.temporaries.+temps.Given as goal

abbrev pub decreases-acts_temps : goal.decreases-acts_temps
decreases-acts_temps l = 2 * actions_size (actions_of l.acts.now) + 1

abbrev pub decreases-act_temps : goal.decreases-act_temps
decreases-act_temps l = 2 * action_size (action_of l.act.now)
