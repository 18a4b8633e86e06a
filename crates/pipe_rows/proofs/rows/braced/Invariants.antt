use Rattle.std.proofs.Common.{length, map}
use Rattle.pipe_reader.specs.Continuations.{MoreParts}
use Rattle.pipe_rows.specs.ReaderState.{braced_parts}
use Rattle.pipe_tree.specs.TreeCopies.{formula_of}
use Rattle.pipe_rows.proofs.FormReading.{Comes}
use Rattle.pipe_rows.proofs.rows.braced.Given as goal

-- what is to come are more parts behind those that were read
abbrev pub invariant-loop-reader : goal.invariant-loop-reader
invariant-loop-reader l = Comes (braced_parts l.at) l.fn.reader (MoreParts l.at (map formula_of l.parts)) l.reader

abbrev pub decreases-loop-reader : goal.decreases-loop-reader
decreases-loop-reader l = length l.reader.left.now
