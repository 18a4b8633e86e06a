use Rattle.c_printer.proofs.PrintedText.{moved_on, declarations_next}
use Rattle.c_printer.proofs.frame.put_declarations.Goals as goal

pub loop-v-preserved : goal.loop-v-preserved
loop-v-preserved c =
    moved_on _ _ _ _ _ _ c.in_ok-put_declaration.ensures
    (declarations_next c.loop-v.v c.args.vars c.loop-v-test.true)
    c.loop-v.invariant
