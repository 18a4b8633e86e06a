use Rattle.std.proofs.Common.{sym, ◌∙◌}
use Rattle.pipe_reader.specs.Continuations.{ARow}
use Rattle.pipe_rows.specs.ReaderState.{single_part, left_of, result_copy}
use Rattle.pipe_tree.specs.TreeCopies.{row_of}
use Rattle.pipe_rows.proofs.FormReading.{here, turn, rest}
use Rattle.pipe_rows.proofs.FirstTokens.{bare_row}
use Rattle.pipe_rows.proofs.rows.row.Goals as goal

pub returns-then-not-is_brace_next-clause-reads : goal.returns-then-not-is_brace_next-clause-reads
returns-then-not-is_brace_next-clause-reads c =
    rest (result_copy row_of c.single.result) (left_of c.single.new.reader)
    (turn single_part (here ARow c.args.reader.now) (bare_row (left_of c.args.reader.now) (sym c.is_brace_next.ensures ∙ c.if-not-is_brace_next.true)))
    c.single.ensures.reads
