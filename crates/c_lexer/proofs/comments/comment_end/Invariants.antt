use Rattle.std.proofs.Common.{◌≡◌, drop}
use Rattle.c_lexer.specs.Comments.{comment_end, further}
use Rattle.c_lexer.proofs.comments.comment_end.Given as goal

abbrev pub invariant-loop-i : goal.invariant-loop-i
invariant-loop-i l = further l.i (comment_end (drop l.i l.behind)) ≡ comment_end l.behind
