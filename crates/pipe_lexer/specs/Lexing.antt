-- The tokens of a text, each with its offset, or the fault where it stops: the text is cut piece by piece.
use Rattle.std.specs.Prelude.{◌≡◌, ℕ, ◌+◌, ◌<◌, ◌≤◌, List, [], ◌∷◌, ◌++◌, drop, Result, Ok, Err, slice_range, encode_utf8_all}
use Rattle.std.specs.Str.{chars, IsUtf8, IsValidUpTo}
use Rattle.pipe_lexer.specs.Characters.{size_of}
use Rattle.pipe_lexer.specs.Pieces.{IsPiece, IsToken, IsLargeNumber, IsBadChar}
use Rattle.pipe_lexer.specs.declared.token.Token.{Token}
use Rattle.pipe_lexer.specs.declared.piece.Piece.{Piece}
use Rattle.pipe_lexer.specs.declared.piece.Piece.TheVariants as piece
use Rattle.pipe_lexer.specs.declared.fault.LexFault.{LexFault}
use Rattle.pipe_lexer.specs.declared.fault.LexFault.TheVariants as fault

-- a piece with its characters
pub record Part : Type 0 where
  pub piece : Piece
  pub text : List ℕ

-- the characters begin with this part, and something holds of what follows it
pub record BeginsWith (p : Part) (holds : List ℕ → Type 0) (cs : List ℕ) : Type 0 where
  pub rest : List ℕ
  pub split : cs ≡ p.text ++ rest
  pub piece : IsPiece p.piece p.text rest
  pub goes_on : holds rest

-- the characters are these parts, one after another, and then this rest
abbrev pub Passes : List ℕ → List Part → List ℕ → Type 0
Passes cs [] end = cs ≡ end
Passes cs (p ∷ ps) end = BeginsWith p (λ rest. Passes rest ps end) cs

-- how many bytes the parts have
abbrev pub size_of_parts : List Part → ℕ
size_of_parts [] = 0
size_of_parts (p ∷ ps) = size_of p.text + size_of_parts ps

-- a piece that is a token, with its offsets; none for a blank or a comment
abbrev pub token_of : Piece → ℕ → ℕ → List Token
token_of piece.Blank at end = []
token_of piece.Comment at end = []
token_of (piece.Token kind) at end = record { kind = kind; at = at; end = end } ∷ []

-- the tokens among the parts that stand from an offset on
abbrev pub tokens_from : ℕ → List Part → List Token
tokens_from at [] = []
tokens_from at (p ∷ ps) = token_of p.piece at (at + size_of p.text) ++ tokens_from (at + size_of p.text) ps

-- the characters are parts to their end, and these are the tokens among them
pub record AreTokensOf (cs : List ℕ) (toks : List Token) : Type 0 where
  pub parts : List Part
  pub passes : Passes cs parts []
  pub tokens : toks ≡ tokens_from 0 parts

-- behind parts, at this offset, something holds of the rest
pub record StopsAt (cs : List ℕ) (at : ℕ) (holds : List ℕ → Type 0) : Type 0 where
  pub parts : List Part
  pub rest : List ℕ
  pub passes : Passes cs parts rest
  pub offset : at ≡ size_of_parts parts
  pub stops : holds rest

-- the bytes are a text, and these are its tokens
abbrev pub IsLexed : List ℕ → List Token → Type 0
IsLexed src toks = IsUtf8 src × AreTokensOf (chars src) toks

-- tokens or a fault
abbrev pub Answer : Type 0
Answer = Result (List Token) LexFault

-- what the text is answered with: its tokens, or the fault at the offset where it stops
abbrev pub LexesAs : List ℕ → Answer → Type 0
LexesAs src (Ok toks) = IsLexed src toks
LexesAs src (Err (fault.NotUtf8 at)) = IsValidUpTo src at
LexesAs src (Err (fault.BadChar at)) = IsUtf8 src × StopsAt (chars src) at IsBadChar
LexesAs src (Err (fault.NumberTooLarge at)) = IsUtf8 src × StopsAt (chars src) at IsLargeNumber
LexesAs src (Err fault.NoMemory) = Unit {0}

-- the answers are one, or memory was refused in one of them
abbrev pub IsSameUnlessRefused : Answer → Answer → Type 0
IsSameUnlessRefused (Err fault.NoMemory) other = Unit {0}
IsSameUnlessRefused answer (Err fault.NoMemory) = Unit {0}
IsSameUnlessRefused answer other = answer ≡ other

-- the token's text is the bytes from its offset to its end, and it is the token there before what follows
pub record HasText (src : List ℕ) (t : Token) : Type 0 where
  pub text : List ℕ
  pub rest : List ℕ
  pub slice : slice_range src t.at t.end ≡ encode_utf8_all text
  pub behind : drop t.end src ≡ encode_utf8_all rest
  pub token : IsToken t.kind text rest

-- the tokens stand one behind another from an offset to an end, each with one byte or more
abbrev pub AreInOrder : ℕ → List Token → ℕ → Type 0
AreInOrder from [] end = from ≤ end
AreInOrder from (t ∷ ts) end = (from ≤ t.at) × (t.at < t.end) × AreInOrder t.end ts end
