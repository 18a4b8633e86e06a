use Rattle.std.proofs.Common.{length}
use Rattle.c_phrase_reader.proofs.reading.Reading.clear.Given as goal

abbrev pub decreases-loop : goal.decreases-loop
decreases-loop l = length l.self.frames
