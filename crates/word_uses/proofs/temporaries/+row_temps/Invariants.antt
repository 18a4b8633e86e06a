use Rattle.std.proofs.Common.{length}
use Rattle.word_uses.proofs.temporaries.+row_temps.Given as goal

abbrev pub decreases-row_temps : goal.decreases-row_temps
decreases-row_temps l = length l.row.now
