use Rattle.pipe_reader.proofs.SomeAnswer.{some_answer}
use Rattle.pipe_reader.proofs.laws.tokens_have_an_answer.Goals as goal

pub returns : goal.returns
returns c = some_answer
