use Rattle.pipe_reader.proofs.TextReader.{texts_are_read_exactly}
use Rattle.pipe_reader.proofs.laws.texts_are_read_exactly.Goals as goal

pub returns : goal.returns
returns c = texts_are_read_exactly
