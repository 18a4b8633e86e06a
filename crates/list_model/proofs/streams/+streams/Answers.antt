use Rattle.std.proofs.Common.{◌≡◌, ◌∙◌, ◌++◌, ℕ, List, rules, arith}
use Rattle.list_denotation.specs.Copies.{pipe_of}
use Rattle.list_denotation.specs.Denotation.{denotation}
use Rattle.list_denotation.specs.Rows.{Rows}
use Rattle.list_denotation.specs.Work.{stream_work}
use Rattle.list_model.specs.declared.rows.Ending.TheVariants as code
use Rattle.list_model.proofs.InnerRows.{join_step, sum_step}
use Rattle.list_model.proofs.streams.+streams.Goals as goal

pub join_rows-loop-i-preserved : goal.join_rows-loop-i-preserved
join_rows-loop-i-preserved t c =
    let bound = c.in_ok-bound.ensures in
    let part = rw bound at c.in_ok-part.ensures.rows in
    let took = rw bound at c.in_ok-part.ensures.work in
    let at_end : c.in_ok-part.part.ending ≡ code.End = search rules in
    let inner : List ℕ → Rows = λ r. denotation (pipe_of c.args.inner.now) (c.args.env.now ++ r) c.args.inputs.now c.args.n in
    let adds : List ℕ → ℕ = λ r. stream_work (pipe_of c.args.inner.now) (c.args.env.now ++ r) c.args.inputs.now c.args.n in
    record {
      rows = rw c.in_ok-append.ensures.ok
          (join_step inner c.loop-i.rows c.args.of.now.rows c.in_ok-part.part.rows c.args.of.now.ending c.in_ok-part.part.ending c.loop-i.i c.get.result.now c.get.ensures part at_end
          ∙ c.loop-i.invariant.rows);
      work = omega (
        arith,
        took,
        c.loop-i.invariant.work,
        sum_step inner adds c.args.of.now.rows c.in_ok-part.part.rows c.args.of.now.ending c.in_ok-part.part.ending c.loop-i.i c.get.result.now c.get.ensures part at_end,
      );
    }

pub list_rows-returns-in_ok-of-in-FlatMap-clause-too_much :
    goal.list_rows-returns-in_ok-of-in-FlatMap-clause-too_much
list_rows-returns-in_ok-of-in-FlatMap-clause-too_much t c = λ is.
    let of = rw c.deref-in-FlatMap.ensures at c.in_ok-of-in-FlatMap.ensures.rows in
    let took = rw c.deref-in-FlatMap.ensures at c.in_ok-of-in-FlatMap.ensures.work in
    let more = rw (c.deref-in-FlatMap-2.ensures, of) at (c.join_rows.ensures.too_much is) in
    rw c.in-FlatMap.is (omega (arith, took, more))
