use Rattle.pipe_lexer.proofs.OneAnswer.{one_answer}
use Rattle.pipe_lexer.proofs.laws.texts_have_one_answer.Goals as goal

pub returns : goal.returns
returns c = one_answer
