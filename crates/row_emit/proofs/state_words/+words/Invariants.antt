use Rattle.std.proofs.Common.{◌+◌, ◌*◌, length}
use Rattle.row_emit.proofs.state_words.+words.Given as goal

abbrev pub decreases-set_words : goal.decreases-set_words
decreases-set_words l = 2 * length l.row.now + 1

abbrev pub decreases-set_first : goal.decreases-set_first
decreases-set_first l = 2 * length l.rest.now + 2
