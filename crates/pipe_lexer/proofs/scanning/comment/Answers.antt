use Rattle.std.proofs.Common.{arith}
use Rattle.pipe_lexer.specs.Characters.{begins_comment, continues_comment}
use Rattle.pipe_lexer.proofs.Runs.{begins_run, begins_run_within}
use Rattle.pipe_lexer.proofs.scanning.comment.Goals as goal

pub returns : goal.returns
returns c = record {
  some = omega arith;
  within = begins_run_within continues_comment c.args.chars.now _ c.requires.some c.comment_len.ensures.run;
  piece = begins_run begins_comment continues_comment c.args.chars.now _ c.requires.some c.requires.begins c.comment_len.ensures.run;
}
