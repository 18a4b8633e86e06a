use Rattle.pipe_printer.proofs.TreeTokens.{sentence_contents}
use Rattle.pipe_printer.proofs.laws.sentences_have_tree_tokens.Goals as goal

pub returns : goal.returns
returns c = sentence_contents
