use Rattle.std.proofs.Common.{◌≡◌, ◌++◌, drop}
use Rattle.pipe_tree.specs.TreeCopies.{stages_of}
use Rattle.pipe_printer.specs.Printing.{run_text, stages_tokens}
use Rattle.pipe_printer.proofs.streams.+stream_texts.Given as goal

-- what is there and the stages left are all of them
abbrev pub invariant-put_stages-loop-stage : goal.invariant-put_stages-loop-stage
invariant-put_stages-loop-stage l =
    l.out.items ++ run_text (stages_tokens (stages_of (drop l.stage-index l.stages)))
    ≡ l.fn.out.items ++ run_text (stages_tokens (stages_of l.stages))
