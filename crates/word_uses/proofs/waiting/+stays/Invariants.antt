use Rattle.std.proofs.Common.{◌+◌, ◌*◌, length}
use Rattle.word_uses.proofs.waiting.+stays.Given as goal

abbrev pub decreases-stays : goal.decreases-stays
decreases-stays l = 2 * length l.acts.now + 1

abbrev pub decreases-stays_over : goal.decreases-stays_over
decreases-stays_over l = 2 * length l.rest.now + 2
