use Rattle.std.proofs.Common.{◌≡◌, ◌++◌, drop, map}
use Rattle.pipe_tree.specs.TreeCopies.{formula_of}
use Rattle.pipe_printer.specs.Printing.{run_text, formula_tokens, others_tokens}
use Rattle.pipe_printer.proofs.rows.put_other_expressions.Given as goal

-- what is there and the expressions left are all of them
abbrev pub invariant-loop-e : goal.invariant-loop-e
invariant-loop-e l =
    l.out.items ++ run_text (others_tokens formula_tokens (map formula_of (drop l.e-index l.parts)))
    ≡ l.fn.out.items ++ run_text (others_tokens formula_tokens (map formula_of l.parts))
