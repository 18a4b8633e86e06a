use Rattle.std.proofs.Common.{ℕ, ◌+◌, ◌-◌, ◌*◌, [], length, map}
use Rattle.pipe_reader.specs.Continuations.{MoreStages}
use Rattle.pipe_rows.specs.ReaderState.{GoesOn}
use Rattle.pipe_tree.specs.TreeCopies.{stage_of}
use Rattle.pipe_tree.specs.Trees.{Source}
use Rattle.pipe_rows.proofs.FormReading.{Comes}
use Rattle.pipe_grammar.proofs.streams.+streams.Given as goal

-- how much deeper streams may be nested, and then how far in a stream the function stands

abbrev pub decreases-stream : goal.decreases-stream
decreases-stream l = 7 * (16 - l.around) + 6

abbrev pub decreases-stages : goal.decreases-stages
decreases-stages l = 7 * (16 - l.around) + 5

abbrev pub decreases-source : goal.decreases-source
decreases-source l = 7 * (16 - l.around) + 4

abbrev pub decreases-stage : goal.decreases-stage
decreases-stage l = 7 * (16 - l.around) + 4

abbrev pub decreases-source_behind : goal.decreases-source_behind
decreases-source_behind l = 7 * (16 - l.around) + 3

abbrev pub decreases-stage_behind : goal.decreases-stage_behind
decreases-stage_behind l = 7 * (16 - l.around) + 3

abbrev pub decreases-zip : goal.decreases-zip
decreases-zip l = 7 * (16 - l.around) + 2

abbrev pub decreases-flat_map : goal.decreases-flat_map
decreases-flat_map l = 7 * (16 - l.around) + 2

abbrev pub decreases-stream_after : goal.decreases-stream_after
decreases-stream_after l = 7 * (16 - l.around) + 1

-- what is to come are more stages behind those that were read
abbrev pub invariant-stages-loop-stages : goal.invariant-stages-loop-stages
invariant-stages-loop-stages l = record {
  on : GoesOn l.fn.reader l.reader;
  comes : (at : ℕ) (source : Source) → Comes (MoreStages l.around at source []) l.fn.reader (MoreStages l.around at source (map stage_of l.stages)) l.reader;
}

abbrev pub decreases-stages-loop-stages : goal.decreases-stages-loop-stages
decreases-stages-loop-stages l = length l.reader.left.now
