-- The reader of whole texts is exact, a sentence has one tree, and tokens have one answer.
use Rattle.std.proofs.Common.{◌≡◌, ℕ, List, []}
use Rattle.pipe_reader.specs.Continuations.{MoreDeclarations, text_reader, read_text}
use Rattle.pipe_tree.specs.Texts.{texts}
use Rattle.exact_reader.specs.Exactness.{IsExact}
use Rattle.pipe_tree.specs.Grammar.{IsSentence}
use Rattle.pipe_tree.specs.Parsing.{Answer, ParsesAs, IsSameUnlessRefused}
use Rattle.pipe_tree.specs.Tokens.{Tok}
use Rattle.pipe_tree.specs.Trees.{Text}
use Rattle.exact_reader.proofs.Exactness.{exact, one_tree}
use Rattle.pipe_reader.proofs.OneAnswer.{one_answer}
use Rattle.pipe_reader.proofs.TextLaws.{laws, is_start}

pub texts_are_read_exactly : (toks : List Tok) → IsExact texts toks (read_text toks)
texts_are_read_exactly toks = exact texts text_reader laws (MoreDeclarations []) is_start toks

pub sentences_have_one_tree : (toks : List Tok) (t u : Text) → IsSentence toks t → IsSentence toks u → t ≡ u
sentences_have_one_tree toks t u h k = one_tree texts text_reader laws (MoreDeclarations []) is_start toks t u h k

pub answers_are_one : (end : ℕ) (toks : List Tok) (a b : Answer) → ParsesAs end toks a → ParsesAs end toks b → IsSameUnlessRefused a b
answers_are_one end toks a b h k = one_answer sentences_have_one_tree end toks a b h k
