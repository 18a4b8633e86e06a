use Rattle.std.proofs.Common.{◌≡◌, Some, refl, sym, ◌∙◌}
use Rattle.std.specs.Map.{lookup}
use Rattle.pipe_kinds.proofs.InputNames.{input_named_is, same_name}
use Rattle.pipe_kinds.proofs.names.input_named.Goals as goal

pub returns-in_err-i : goal.returns-in_err-i
returns-in_err-i c =
    rw (c.from_residual.ensures, input_named_is c.args.name c.args.inputs.now.entries c.in_err-i.ensures.unique, ← c.in_err-i.ensures.index) refl

pub returns : goal.returns
returns c =
    let found : lookup (same_name c.args.name) c.args.inputs.now.entries ≡ Some c.index.result.now = sym c.in_ok-i.ensures.value ∙ c.index.ensures in
    rw (input_named_is c.args.name c.args.inputs.now.entries c.in_ok-i.ensures.unique, ← c.in_ok-i.ensures.index, found) refl
