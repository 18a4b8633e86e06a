-- What is promised of the definitions. Each statement has one name, which its law and those who stand on it cite.
use Rattle.std.specs.Prelude.{◌≡◌, ◌≢◌, ℕ, List, Err}
use Rattle.pipe_reader.specs.Continuations.{read_text}
use Rattle.pipe_tree.specs.declared.fault.ParseFault.TheVariants.{NoMemory}
use Rattle.exact_reader.specs.Exactness.{IsExact}
use Rattle.pipe_tree.specs.Grammar.{IsSentence}
use Rattle.pipe_tree.specs.Parsing.{Answer, ParsesAs, IsSameUnlessRefused}
use Rattle.pipe_tree.specs.Texts.{texts}
use Rattle.pipe_tree.specs.Tokens.{Tok}
use Rattle.pipe_tree.specs.Trees.{Text}

-- The reader of whole texts is exact. It gives a tree only for a sentence within the depths. `Syntax`
-- is at the first token that no sentence goes on with, or at the end, where the tokens only begin
-- a sentence. `TooDeep` is at the first token that only sentences beyond the depths go on with.
abbrev pub TextsAreReadExactly : Type 0
TextsAreReadExactly =
    (toks : List Tok) → IsExact texts toks (read_text toks)

-- The tokens of a sentence have one tree, whatever its depths.
abbrev pub SentencesHaveOneTree : Type 0
SentencesHaveOneTree =
    (toks : List Tok) (t u : Text) → IsSentence toks t → IsSentence toks u → t ≡ u

-- Tokens have one answer, unless memory is refused.
abbrev pub TokensHaveOneAnswer : Type 0
TokensHaveOneAnswer =
    (end : ℕ) (toks : List Tok) (a b : Answer)
    → ParsesAs end toks a → ParsesAs end toks b → IsSameUnlessRefused a b

-- Any tokens have a tree within the limits, or a fault that is no refusal of memory: together with the
-- law before it, exactly one of these.
abbrev pub TokensHaveAnAnswer : Type 0
TokensHaveAnAnswer =
    (end : ℕ) (toks : List Tok)
    → (a : Answer) × (ParsesAs end toks a × (a ≢ Err NoMemory))
