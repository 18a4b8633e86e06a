use Rattle.std.proofs.Common.{◌≡◌, ◌-◌, ◌++◌}
use Rattle.loop_ir.specs.Layout.{declarations_text}
use Rattle.c_printer.proofs.frame.put_declarations.Given as goal

-- what is there and the declarations left are all of them
abbrev pub invariant-loop-v : goal.invariant-loop-v
invariant-loop-v l = l.out.items ++ declarations_text l.v (l.vars - l.v) ≡ l.fn.out.items ++ declarations_text 0 l.vars
