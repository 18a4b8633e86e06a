use Rattle.std.proofs.Common.{List}
use Rattle.list_denotation.specs.declared.input.Input.{Input}
use Rattle.std.proofs.lemmas.Result.{err_from_is_err_and}
use Rattle.job_inputs.proofs.Bounds.{counts_pass}
use Rattle.job_inputs.proofs.Untouched.{untouched}
use Rattle.job_inputs.proofs.inputs.placed_inputs.Goals as goal

pub returns-in_err-check_count-clause-leaves : goal.returns-in_err-check_count-clause-leaves
returns-in_err-check_count-clause-leaves g c =
    let p = err_from_is_err_and c.from_residual.result c.from_residual.ensures.1 in
    rw (p.1, p.2) (untouched (List Input) (g.F.Files.told c.args.files.now) _ c.in_err-check_count.ensures.file)

pub returns-clause-inputs : goal.returns-clause-inputs
returns-clause-inputs g c =
    counts_pass (g.F.Files.told c.args.files.now).holds c.args.values.now c.args.kinds.now c.take_placed.result c.in_ok-check_count.ensures.same c.take_placed.ensures.takes
