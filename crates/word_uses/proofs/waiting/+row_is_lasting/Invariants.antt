use Rattle.std.proofs.Common.{length}
use Rattle.word_uses.proofs.waiting.+row_is_lasting.Given as goal

abbrev pub decreases-row_is_lasting : goal.decreases-row_is_lasting
decreases-row_is_lasting l = length l.row.now
