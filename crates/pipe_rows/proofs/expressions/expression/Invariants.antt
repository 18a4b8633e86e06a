use Rattle.std.proofs.Common.{◌≡◌, length}
use Rattle.pipe_reader.specs.Continuations.{Continuation, AnExpression, expression, read_from}
use Rattle.pipe_expressions.specs.MachineCopies.{state_of}
use Rattle.pipe_rows.specs.ReaderState.{GoesOn, left_of}
use Rattle.pipe_tree.specs.Trees.{Formula}
use Rattle.pipe_rows.proofs.expressions.expression.Given as goal

-- what is read from here is what is read from the start
abbrev pub invariant-loop-kind : goal.invariant-loop-kind
invariant-loop-kind l =
    record {
      reads : (f : Formula → Continuation) → read_from (AnExpression (state_of l.mode l.forms) f) (left_of l.reader) ≡ read_from (expression f) (left_of l.fn.reader);
      on : GoesOn l.fn.reader l.reader;
    }

abbrev pub decreases-loop-kind : goal.decreases-loop-kind
decreases-loop-kind l = length l.reader.left.now
