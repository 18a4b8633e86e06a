use Rattle.std.proofs.Common.{◌≢◌, ℕ, ◌<◌, get_or}
use Rattle.pipe_lexer.specs.Keywords.{keyword_text}
use Rattle.pipe_lexer.specs.declared.keyword.Keyword.{Keyword}
use Rattle.pipe_lexer.proofs.keyword.keyword_of.Given as goal

abbrev pub invariant-loop-keyword : goal.invariant-loop-keyword
invariant-loop-keyword l = (i : ℕ) (d : Keyword) → i < l.keyword-index → keyword_text (get_or l.keyword-items i d) ≢ l.identifier
