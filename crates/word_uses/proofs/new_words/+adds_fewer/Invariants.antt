use Rattle.std.proofs.Common.{length}
use Rattle.word_uses.proofs.new_words.+adds_fewer.Given as goal

abbrev pub decreases-adds_fewer : goal.decreases-adds_fewer
decreases-adds_fewer l = length l.acts.now
