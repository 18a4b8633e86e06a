use Rattle.std.proofs.Common.{◌≡◌, drop, ◌++◌, ◌+◌}
use Rattle.list_denotation.specs.Copies.{pipe_of}
use Rattle.list_denotation.specs.Denotation.{denotation}
use Rattle.list_denotation.specs.Rows.{join_rows}
use Rattle.list_denotation.specs.Work.{stream_work, sum_over}
use Rattle.list_model.specs.Listed.{onto, listed}
use Rattle.list_model.proofs.streams.+streams.Given as goal

abbrev pub invariant-join_rows-loop-i : goal.invariant-join_rows-loop-i
invariant-join_rows-loop-i l = record {
  rows :
      onto l.rows (join_rows (listed (drop l.i l.of.rows) l.of.ending) (λ r. denotation (pipe_of l.inner) (l.env ++ r) l.inputs l.n))
      ≡ join_rows (listed l.of.rows l.of.ending) (λ r. denotation (pipe_of l.inner) (l.env ++ r) l.inputs l.n);
  work :
      l.initial.room + sum_over (listed (drop l.i l.of.rows) l.of.ending) (λ r. denotation (pipe_of l.inner) (l.env ++ r) l.inputs l.n) (λ r. stream_work (pipe_of l.inner) (l.env ++ r) l.inputs l.n) ◌+◌ 0
      ≡ sum_over (listed l.of.rows l.of.ending) (λ r. denotation (pipe_of l.inner) (l.env ++ r) l.inputs l.n) (λ r. stream_work (pipe_of l.inner) (l.env ++ r) l.inputs l.n) ◌+◌ 0 + l.room;
}
