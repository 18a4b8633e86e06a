-- What is promised of the definitions. Each statement has one name, which its law and those who stand on it cite.
use Rattle.std.specs.Prelude.{◌≡◌, List}
use Rattle.pipe_tree.specs.Tokens.{Tok}
use Rattle.pipe_tree.specs.Trees.{Text}
use Rattle.pipe_tree.specs.Grammar.{IsSentence}
use Rattle.pipe_printer.specs.Printing.{tree_tokens}
use Rattle.pipe_printer.specs.TreeTokens.{contents_of}

-- The tokens of a sentence are, but for offsets, the tokens that `print_tree` writes of its tree.
abbrev pub SentencesHaveTreeTokens : Type 0
SentencesHaveTreeTokens = (toks : List Tok) (tree : Text) → IsSentence toks tree → contents_of toks ≡ tree_tokens tree
