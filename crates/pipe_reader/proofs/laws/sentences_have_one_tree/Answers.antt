use Rattle.pipe_reader.proofs.TextReader.{sentences_have_one_tree}
use Rattle.pipe_reader.proofs.laws.sentences_have_one_tree.Goals as goal

pub returns : goal.returns
returns c = sentences_have_one_tree
