use Rattle.std.proofs.Common.{◌≡◌, ◌++◌, drop, map}
use Rattle.pipe_tree.specs.TreeCopies.{label_of}
use Rattle.pipe_printer.specs.Printing.{run_text, label_tokens, others_tokens}
use Rattle.pipe_printer.proofs.rows.put_other_names.Given as goal

-- what is there and the names left are all of them
abbrev pub invariant-loop-name : goal.invariant-loop-name
invariant-loop-name l =
    l.out.items ++ run_text (others_tokens label_tokens (map label_of (drop l.name-index l.names)))
    ≡ l.fn.out.items ++ run_text (others_tokens label_tokens (map label_of l.names))
