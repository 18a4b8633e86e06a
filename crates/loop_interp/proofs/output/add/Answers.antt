use Rattle.std.proofs.Common.{◌-◌, length, take}
use Rattle.std.proofs.lemmas.Result.{err_from_is_err_and}
use Rattle.loop_interp.proofs.Adding.{cut_in_two}
use Rattle.loop_interp.proofs.output.add.Goals as goal

pub returns-in_err-flush-clause-writes : goal.returns-in_err-flush-clause-writes
returns-in_err-flush-clause-writes g c =
    let failed = err_from_is_err_and c.from_residual.result c.from_residual.ensures.1 in
    rw failed.1
    (cut_in_two _ _ (take c.args.fill.now c.args.pending.now) (take c.place-2.new.fill c.place-2.new.pending) c.args.bytes.now
    (length c.args.pending.now - c.args.fill.now) c.place-2.ensures.placed c.in_err-flush.ensures.writes)
