use Rattle.c_printer.proofs.PrintedText.{moved_on, more_params_next}
use Rattle.c_printer.proofs.frame.put_more_params.Goals as goal

pub loop-k-preserved : goal.loop-k-preserved
loop-k-preserved c =
    moved_on _ _ _ _ _ _ c.in_ok-put_other_param.ensures
    (more_params_next c.loop-k.k c.args.params.now c.get.result.now c.get.ensures)
    c.loop-k.invariant
