use Rattle.std.proofs.Common.{length, map}
use Rattle.pipe_reader.specs.Continuations.{MoreNames}
use Rattle.pipe_rows.specs.ReaderState.{braced_names}
use Rattle.pipe_tree.specs.TreeCopies.{label_of}
use Rattle.pipe_rows.proofs.FormReading.{Comes}
use Rattle.pipe_rows.proofs.patterns.braced.Given as goal

-- what is to come are more names behind those that were read
abbrev pub invariant-loop-reader : goal.invariant-loop-reader
invariant-loop-reader l = Comes (braced_names l.at) l.fn.reader (MoreNames l.at (map label_of l.names)) l.reader

abbrev pub decreases-loop-reader : goal.decreases-loop-reader
decreases-loop-reader l = length l.reader.left.now
