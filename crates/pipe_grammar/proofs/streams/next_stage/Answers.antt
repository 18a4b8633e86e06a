use Rattle.std.proofs.Common.{sym, ◌∙◌}
use Rattle.pipe_reader.specs.Continuations.{MoreStages, AStage}
use Rattle.pipe_rows.specs.ReaderState.{tokens_behind, left_of, stage_or_end}
use Rattle.pipe_rows.proofs.FirstTokens.{bar_taken}
use Rattle.pipe_rows.proofs.FormReading.{here, take_token, rest_starts}
use Rattle.pipe_grammar.proofs.streams.next_stage.Goals as goal

pub returns-then-is_bar_next-clause-starts : goal.returns-then-is_bar_next-clause-starts
returns-then-is_bar_next-clause-starts c = λ at source ss.
    rest_starts c.stage_behind_bar.result (stage_or_end c.args.around at source ss) (left_of c.advance.new.self)
    (take_token (AStage c.args.around at source ss) (tokens_behind (left_of c.args.reader.now)) (here (MoreStages c.args.around at source ss) c.args.reader.now)
    (bar_taken c.args.around at source ss (left_of c.args.reader.now) (sym c.is_bar_next.ensures ∙ c.if-is_bar_next.true)) c.advance.ensures.left c.advance.ensures.on)
    (c.stage_behind_bar.ensures.starts at source ss)
