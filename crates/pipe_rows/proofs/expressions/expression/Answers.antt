use Rattle.std.proofs.Common.{length, ap, sym, ◌∙◌}
use Rattle.pipe_reader.specs.Machine.{step}
use Rattle.pipe_expressions.specs.MachineCopies.{state_of}
use Rattle.pipe_tree.specs.Parsing.{offset_or_end}
use Rattle.pipe_rows.specs.ReaderState.{end_of, left_of, text_left}
use Rattle.pipe_tree.specs.Tokens.{what_of}
use Rattle.pipe_rows.proofs.ExpressionSteps.{goes_deep}
use Rattle.pipe_rows.proofs.expressions.expression.Goals as goal

pub returns-then-not-is_within_depth-clause-reads : goal.returns-then-not-is_within_depth-clause-reads
returns-then-not-is_within_depth-clause-reads c = record {
  offset = c.offset.ensures ∙ ap (λ src. offset_or_end (length src) (left_of c.loop-kind.reader)) c.loop-kind.invariant.on.text;
  stops = λ f is_shallow. sym (c.loop-kind.invariant.reads f)
      ∙ goes_deep (end_of c.loop-kind.reader) c.loop-kind.reader.src.now c.loop-kind.reader.left.now c.in-Some.kind (state_of c.loop-kind.mode c.loop-kind.forms) (state_of c.in-Goes.next c.step.new.forms) f
      c.in-Some.ensures
      ((rw c.in-Goes.is at c.in_ok-next.ensures)
      ∙ ap (λ text. step (state_of c.loop-kind.mode c.loop-kind.forms) (what_of c.in-Some.kind text) c.offset-at.result) c.text.ensures
      ∙ ap (step (state_of c.loop-kind.mode c.loop-kind.forms) (what_of c.in-Some.kind (text_left c.loop-kind.reader))) c.offset-at.ensures)
      (sym c.is_within_depth.ensures ∙ c.if-not-is_within_depth.true);
}
