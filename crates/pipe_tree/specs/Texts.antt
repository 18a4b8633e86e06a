-- The language of pipeline texts, and which of its trees are within the depths.
use Rattle.exact_reader.specs.Exactness.{Language}
use Rattle.pipe_tree.specs.Bounds.{IsWithinDepths}
use Rattle.pipe_tree.specs.Grammar.{IsSentence}
use Rattle.pipe_tree.specs.Tokens.{Tok}
use Rattle.pipe_tree.specs.Trees.{Text}

abbrev pub texts : Language Tok
texts = record { Tree = Text; IsSentence = IsSentence; IsWithin = IsWithinDepths }
