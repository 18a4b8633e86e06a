use Rattle.std.proofs.Common.{◌≡◌, ◌++◌, drop, map}
use Rattle.pipe_tree.specs.TreeCopies.{declaration_of}
use Rattle.pipe_printer.specs.Printing.{run_text, declarations_tokens}
use Rattle.pipe_printer.proofs.texts.put_declarations.Given as goal

-- what is there and the declarations left are all of them
abbrev pub invariant-loop-declaration : goal.invariant-loop-declaration
invariant-loop-declaration l =
    l.out.items ++ run_text (declarations_tokens (map declaration_of (drop l.declaration-index l.inputs)))
    ≡ l.fn.out.items ++ run_text (declarations_tokens (map declaration_of l.inputs))
