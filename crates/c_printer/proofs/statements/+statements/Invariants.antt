use Rattle.std.proofs.Common.{◌≡◌, ◌++◌, drop}
use Rattle.loop_ir.specs.StatementCopies.{block_of}
use Rattle.loop_ir.specs.Layout.{block_text}
use Rattle.c_printer.proofs.statements.+statements.Given as goal

-- what is there and the text of the statements left are the text of all
abbrev pub invariant-put_block-loop-s : goal.invariant-put_block-loop-s
invariant-put_block-loop-s l =
    l.out.items ++ block_text (block_of (drop l.s-index l.body)) l.blanks ≡ l.fn.out.items ++ block_text (block_of l.body) l.blanks
