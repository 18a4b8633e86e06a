-- What is promised of the definitions. Each statement has one name, which its law and those who stand on it cite.
use Rattle.std.specs.Prelude.{◌≢◌, ℕ, List, length, Err}
use Rattle.pipe_lexer.specs.declared.fault.LexFault.TheVariants.{NoMemory}
use Rattle.pipe_lexer.specs.Lexing.{Answer, AreInOrder, IsLexed, LexesAs, IsSameUnlessRefused}
use Rattle.pipe_lexer.specs.declared.token.Token.{Token}

-- Bytes have one answer, unless memory is refused.
abbrev pub TextsHaveOneAnswer : Type 0
TextsHaveOneAnswer =
    (src : List ℕ) (a b : Answer) → LexesAs src a → LexesAs src b
    → IsSameUnlessRefused a b

-- Any bytes have tokens, or a fault that is no refusal of memory: together with the law before it,
-- exactly one of these.
abbrev pub TextsHaveAnAnswer : Type 0
TextsHaveAnAnswer =
    (src : List ℕ) → (a : Answer) × (LexesAs src a × (a ≢ Err NoMemory))

-- The tokens of a text stand one behind another within it, each with one byte or more.
abbrev pub TokensAreInOrder : Type 0
TokensAreInOrder =
    (src : List ℕ) (toks : List Token) → IsLexed src toks
    → AreInOrder 0 toks (length src)
