use Rattle.pipe_reader.proofs.TextReader.{answers_are_one}
use Rattle.pipe_reader.proofs.laws.answers_are_one.Goals as goal

pub returns : goal.returns
returns c = answers_are_one
