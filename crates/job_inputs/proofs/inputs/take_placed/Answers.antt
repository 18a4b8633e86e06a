use Rattle.std.proofs.Common.{◌+◌, ◌∙◌, [], drop, arith}
use Rattle.std.proofs.lemmas.Result.{err_from_is_err_and}
use Rattle.command_words.specs.Commands.{texts_of}
use Rattle.status_lines.specs.declared.statuses.InputName.TheVariants.{Position}
use Rattle.job_steps.specs.Bindings.{Given}
use Rattle.job_steps.specs.Inputs.{TakesInputs}
use Rattle.job_inputs.specs.Givens.{placed_givens}
use Rattle.job_inputs.proofs.Bounds.{placed_left}
use Rattle.job_inputs.proofs.TakenInputs.{take_fails, take_goes}
use Rattle.job_inputs.proofs.inputs.take_placed.Goals as goal

pub returns-in_err-input-clause-takes : goal.returns-in_err-input-clause-takes
returns-in_err-input-clause-takes g c =
    let store = (g.F.Files.told c.args.files.now).holds in
    let given : Given = record { name = Position c.loop-i.i; kind = c.get.result.now; value = c.as_str-given.result.now } in
    let rest = placed_givens (c.loop-i.i + 1) (texts_of (drop (c.loop-i.i + 1) c.args.values.now)) (drop (c.loop-i.i + 1) c.args.kinds.now) in
    let here = placed_left c.args.values.now c.args.kinds.now c.loop-i.i c.index-values-i.result c.get.result.now c.as_str-given.result.now (omega arith) c.index-values-i.is c.get.ensures c.as_str-given.ensures.value in
    let p = err_from_is_err_and c.from_residual.result c.from_residual.ensures.1 in
    rw (p.1, p.2) (take_fails store _ c.loop-i.invariant.holds c.loop-i.taken given rest _ (TakesInputs store [] (placed_givens 0 (texts_of c.args.values.now) c.args.kinds.now)) here c.loop-i.invariant.left c.in_err-input.field-0.0 c.in_err-input.ensures.takes)

pub loop-i-preserved : goal.loop-i-preserved
loop-i-preserved g c =
    let store = (g.F.Files.told c.args.files.now).holds in
    let given : Given = record { name = Position c.loop-i.i; kind = c.get.result.now; value = c.as_str-given.result.now } in
    let rest = placed_givens (c.loop-i.i + 1) (texts_of (drop (c.loop-i.i + 1) c.args.values.now)) (drop (c.loop-i.i + 1) c.args.kinds.now) in
    let here = placed_left c.args.values.now c.args.kinds.now c.loop-i.i c.index-values-i.result c.get.result.now c.as_str-given.result.now (omega arith) c.index-values-i.is c.get.ensures c.as_str-given.ensures.value in
    record {
      left = take_goes store _ c.loop-i.invariant.holds c.loop-i.taken given rest _ (TakesInputs store [] (placed_givens 0 (texts_of c.args.values.now) c.args.kinds.now)) here c.loop-i.invariant.left c.in_ok-input.input c.push.new.self c.in_ok-input.ensures.takes c.in_ok-push.ensures.ok;
      holds = c.take_input.ensures.leaves.holds ∙ c.loop-i.invariant.holds;
      misses = omega (arith, c.take_input.ensures.leaves.misses, c.loop-i.invariant.misses);
      faults = omega (arith, c.take_input.ensures.leaves.faults, c.loop-i.invariant.faults);
    }
