use Rattle.std.proofs.Common.{sym, ap, ◌∙◌, subst, false}
use Rattle.std.specs.Prelude.{replicate}
use Rattle.loop_ir.specs.StatementCopies.{block_of, routine_from}
use Rattle.loop_ir.specs.WellFormed.{IsWellFormed}
use Rattle.dead_code.specs.Ends.{reached}
use Rattle.dead_code.specs.FirstZeros.{without_first_zeros}
use Rattle.dead_code.specs.Live.{marked_count, ranks, live}
use Rattle.dead_code.specs.Needs.{needed}
use Rattle.dead_code.proofs.LivePrograms.{live_well_formed}
use Rattle.dead_code.proofs.MadePrograms.{made_program}
use Rattle.dead_code.proofs.cleaning.without_dead_code.Goals as goal

pub invariant_of-result : goal.invariant_of-result
invariant_of-result c =
    let q = c.args.q.now in
    let kept = c.in_ok-reached.reached in
    let marks = c.in_ok-marks.marks.items in
    let numbers = c.in_ok-numbers.numbers.items in
    record {
      well_formed =
          subst IsWellFormed
          (sym (made_program q.params c.in_ok-params.params q.vars q.body kept c.in_ok-body.body marks numbers c.marked_count-vars.result
          (c.in_ok-reached.ensures ∙ ap (λ b. reached (block_of b)) c.as_slice.ensures)
          (c.in_ok-marks.ensures.marks ∙ ap (λ b. needed q.vars (block_of b)) c.as_slice-2.ensures)
          (c.in_ok-numbers.ensures ∙ ap ranks c.deref.ensures.value)
          (c.marked_count-vars.ensures ∙ ap marked_count c.deref-2.ensures.value)
          (c.in_ok-body.ensures ∙ ap (λ b. live marks numbers (without_first_zeros (replicate q.vars false) (block_of b))) c.as_slice-3.ensures)
          (c.in_ok-params.ensures ∙ c.as_slice-4.ensures)))
          (live_well_formed (routine_from q.params q.vars q.body) q.well_formed);
    }
