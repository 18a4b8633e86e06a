use Rattle.std.proofs.Common.{sym, ap, ◌∙◌, ◌+◌, drop}
use Rattle.std.specs.Prelude.{◌||◌}
use Rattle.loop_ir.specs.StatementCopies.{block_of}
use Rattle.dead_code.specs.Ends.{block_ends, reached}
use Rattle.dead_code.proofs.Appends.{reached_step, reached_last, ends_here, ends_later, first_false, second_false, if_reached, from_nothing}
use Rattle.dead_code.proofs.reached.+reached.Goals as goal
use Rattle.dead_code.proofs.reached.+reached.Goals.{push_reached-then-branch+else-no_loop_behind, push_reached-else-branch}

pub push_reached-loop-i-preserved : goal.push_reached-loop-i-preserved
push_reached-loop-i-preserved t c = record {
  whole = reached_step (block_of c.loop-i.made) c.push_reached_statement.new.made c.args.body.now c.loop-i.i c.index-body-i.result c.loop-i-test.true c.index-body-i.is c.in_ok-push_reached_statement.ensures.made
      (elim c.if-branch.branch [ push_reached-then-branch+else-no_loop_behind w ↦ second_false _ _ w.if-no_loop_behind.ensures | push_reached-else-branch w ↦ first_false _ _ (sym c.in_ok-push_reached_statement.ensures.ends ∙ w.if-branch.false) ])
      ∙ c.loop-i.invariant.whole;
  over = elim c.if-branch.branch [
    | push_reached-then-branch+else-no_loop_behind w ↦
        ap (λ e. e || block_ends (block_of (drop (c.loop-i.i + 1) c.args.body.now))) w.ends-is
        ∙ ends_here c.loop-i.ends c.in_ok-push_reached_statement.field-0 (block_ends (block_of c.args.body.now)) c.args.body.now c.loop-i.i c.index-body-i.result c.loop-i-test.true c.index-body-i.is c.in_ok-push_reached_statement.ensures.ends w.if-branch.true c.loop-i.invariant.over
    | push_reached-else-branch w ↦
        ap (λ e. e || block_ends (block_of (drop (c.loop-i.i + 1) c.args.body.now))) w.ends-is
        ∙ ends_later c.loop-i.ends c.in_ok-push_reached_statement.field-0 (block_ends (block_of c.args.body.now)) c.args.body.now c.loop-i.i c.index-body-i.result c.loop-i-test.true c.index-body-i.is c.in_ok-push_reached_statement.ensures.ends w.if-branch.false c.loop-i.invariant.over
  ];
}

pub push_reached-returns-then-no_loop_behind-clause-made : goal.push_reached-returns-then-no_loop_behind-clause-made
push_reached-returns-then-no_loop_behind-clause-made t c =
    reached_last (block_of c.loop-i.made) c.push_reached_statement.new.made c.args.body.now c.loop-i.i c.index-body-i.result c.loop-i-test.true c.index-body-i.is c.in_ok-push_reached_statement.ensures.made
    (sym c.in_ok-push_reached_statement.ensures.ends ∙ c.if-branch.true) (sym c.if-no_loop_behind.ensures)
    ∙ c.loop-i.invariant.whole

pub push_reached-returns-then-no_loop_behind-clause-ends : goal.push_reached-returns-then-no_loop_behind-clause-ends
push_reached-returns-then-no_loop_behind-clause-ends t c =
    ends_here c.loop-i.ends c.in_ok-push_reached_statement.field-0 (block_ends (block_of c.args.body.now)) c.args.body.now c.loop-i.i c.index-body-i.result c.loop-i-test.true c.index-body-i.is c.in_ok-push_reached_statement.ensures.ends c.if-branch.true c.loop-i.invariant.over

pub push_reached_statement-returns-then-first_ends-clause-made :
    goal.push_reached_statement-returns-then-first_ends-clause-made
push_reached_statement-returns-then-first_ends-clause-made t c =
    if_reached c.args.made.now c.push_if.new.made c.args.s.now c.in-If.t c.in-If.a c.in-If.b c.push_reached.new.made c.push_reached-in-If.new.made c.in-If.is
    (from_nothing c.new-first.result c.push_reached.new.made (reached (block_of c.as_slice.result.now)) c.new-first.ensures c.in_ok-first_ends-in-If.ensures.made ∙ ap (λ z. reached (block_of z)) c.as_slice.ensures)
    (from_nothing c.new-second.result c.push_reached-in-If.new.made (reached (block_of c.as_slice-in-If.result.now)) c.new-second.ensures c.in_ok-second_ends-in-If.ensures.made ∙ ap (λ z. reached (block_of z)) c.as_slice-in-If.ensures)
    c.in_ok-push_if-in-If.ensures

pub push_reached_statement-returns-else-first_ends-clause-made :
    goal.push_reached_statement-returns-else-first_ends-clause-made
push_reached_statement-returns-else-first_ends-clause-made t c =
    if_reached c.args.made.now c.push_if.new.made c.args.s.now c.in-If.t c.in-If.a c.in-If.b c.push_reached.new.made c.push_reached-in-If.new.made c.in-If.is
    (from_nothing c.new-first.result c.push_reached.new.made (reached (block_of c.as_slice.result.now)) c.new-first.ensures c.in_ok-first_ends-in-If.ensures.made ∙ ap (λ z. reached (block_of z)) c.as_slice.ensures)
    (from_nothing c.new-second.result c.push_reached-in-If.new.made (reached (block_of c.as_slice-in-If.result.now)) c.new-second.ensures c.in_ok-second_ends-in-If.ensures.made ∙ ap (λ z. reached (block_of z)) c.as_slice-in-If.ensures)
    c.in_ok-push_if-in-If.ensures
