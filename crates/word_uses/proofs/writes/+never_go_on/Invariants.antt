use Rattle.std.proofs.Common.{length}
use Rattle.word_uses.proofs.writes.+never_go_on.Given as goal

abbrev pub decreases-never_go_on : goal.decreases-never_go_on
decreases-never_go_on l = length l.acts.now
