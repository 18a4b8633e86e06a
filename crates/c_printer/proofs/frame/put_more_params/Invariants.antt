use Rattle.std.proofs.Common.{◌≡◌, ◌++◌, drop}
use Rattle.loop_ir.specs.Layout.{more_params_text}
use Rattle.c_printer.proofs.frame.put_more_params.Given as goal

-- what is there and the parameters left are all but the first
abbrev pub invariant-loop-k : goal.invariant-loop-k
invariant-loop-k l =
    l.out.items ++ more_params_text l.k (drop l.k l.params) ≡ l.fn.out.items ++ more_params_text 1 (drop 1 l.params)
