use Rattle.std.proofs.Common.{sym, subst, ◌∙◌}
use Rattle.loop_ir.specs.StatementCopies.{routine_from}
use Rattle.loop_ir.specs.WellFormed.{IsWellFormed}
use Rattle.loop_emit.proofs.emission.machine_program.Goals as goal

pub invariant_of-result : goal.invariant_of-result
invariant_of-result c = record {
  well_formed =
      subst (λ inputs. IsWellFormed (routine_from inputs c.in_ok-body.vars c.in_ok-body.body)) (sym (c.in_ok-params.ensures ∙ c.as_slice.ensures))
      c.in_ok-body.ensures.well_formed;
}
