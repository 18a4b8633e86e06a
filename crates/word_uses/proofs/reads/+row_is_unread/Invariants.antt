use Rattle.std.proofs.Common.{length}
use Rattle.word_uses.proofs.reads.+row_is_unread.Given as goal

abbrev pub decreases-row_is_unread : goal.decreases-row_is_unread
decreases-row_is_unread l = length l.row.now
