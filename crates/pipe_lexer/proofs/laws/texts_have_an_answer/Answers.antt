use Rattle.pipe_lexer.proofs.SomeAnswer.{some_answer}
use Rattle.pipe_lexer.proofs.laws.texts_have_an_answer.Goals as goal

pub returns : goal.returns
returns c = some_answer
