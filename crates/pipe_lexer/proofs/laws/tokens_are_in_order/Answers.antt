use Rattle.std.specs.Prelude.{Ok}
use Rattle.pipe_lexer.proofs.Offsets.{answer_in_order}
use Rattle.pipe_lexer.proofs.laws.tokens_are_in_order.Goals as goal

pub returns : goal.returns
returns c = λ src toks h. answer_in_order src (Ok toks) h
