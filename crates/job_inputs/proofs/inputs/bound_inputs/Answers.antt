use Rattle.std.proofs.Common.{List}
use Rattle.list_denotation.specs.declared.input.Input.{Input}
use Rattle.std.proofs.lemmas.Result.{err_from_is_err_and}
use Rattle.command_words.specs.Commands.{texts_of}
use Rattle.job_inputs.proofs.Bounds.{names_fail, names_pass}
use Rattle.job_inputs.proofs.Untouched.{untouched}
use Rattle.job_inputs.proofs.inputs.bound_inputs.Goals as goal

pub returns-in_err-check_words-clause-leaves : goal.returns-in_err-check_words-clause-leaves
returns-in_err-check_words-clause-leaves g c =
    let p = err_from_is_err_and c.from_residual.result c.from_residual.ensures.1 in
    rw (p.1, p.2) (untouched (List Input) (g.F.Files.told c.args.files.now) _ c.in_err-check_words.ensures.file)

pub returns-in_err-check_names-clause-inputs : goal.returns-in_err-check_names-clause-inputs
returns-in_err-check_names-clause-inputs g c =
    let p = err_from_is_err_and c.from_residual-in_err-check_names.result c.from_residual-in_err-check_names.ensures.1 in
    rw (p.1, p.2)
    (names_fail (g.F.Files.told c.args.files.now).holds (texts_of c.args.words.now) c.args.names.now c.args.kinds.now c.requires c.in_ok-check_words.ensures.tells c.in_err-check_names.field-0.0 c.in_err-check_names.ensures.tells)

pub returns-in_err-check_names-clause-leaves : goal.returns-in_err-check_names-clause-leaves
returns-in_err-check_names-clause-leaves g c =
    let p = err_from_is_err_and c.from_residual-in_err-check_names.result c.from_residual-in_err-check_names.ensures.1 in
    rw (p.1, p.2) (untouched (List Input) (g.F.Files.told c.args.files.now) _ c.in_err-check_names.ensures.file)

pub returns-clause-inputs : goal.returns-clause-inputs
returns-clause-inputs g c =
    names_pass (g.F.Files.told c.args.files.now).holds (texts_of c.args.words.now) c.args.names.now c.args.kinds.now c.requires c.in_ok-check_words.ensures.tells c.take_bound.result c.in_ok-check_names.ensures.tells c.take_bound.ensures.takes
