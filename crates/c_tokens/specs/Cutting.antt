-- The tokens of a C text behind its first line, each with its offset: the text is cut piece by piece.
use Rattle.std.specs.Prelude.{◌≡◌, ℕ, ◌+◌, List, [], ◌∷◌, ◌++◌, length}
use Rattle.c_tokens.specs.Pieces as piece
use Rattle.c_tokens.specs.Pieces.{What, Piece, IsPiece}

-- a token and the offset of its first byte
pub record Token : Type 0 where
  pub what : What
  pub at : ℕ

-- a piece with its characters
pub record Part : Type 0 where
  pub piece : Piece
  pub text : List ℕ

-- the characters begin with this part, and something holds of what follows it
pub record BeginsWith (p : Part) (holds : List ℕ → Type 0) (cs : List ℕ) : Type 0 where
  pub rest : List ℕ
  pub split : cs ≡ p.text ++ rest
  pub piece : IsPiece p.piece p.text rest
  pub goes_on : holds rest

-- the characters are these parts, one after another, and then this rest
abbrev pub Passes : List ℕ → List Part → List ℕ → Type 0
Passes cs [] end = cs ≡ end
Passes cs (p ∷ ps) end = BeginsWith p (λ rest. Passes rest ps end) cs

-- a piece that is a token, at its offset; none for a blank or a comment
abbrev pub token_of : Piece → ℕ → List Token
token_of piece.Blank at = []
token_of piece.Comment at = []
token_of (piece.Token what) at = record { what = what; at = at } ∷ []

-- the tokens among the parts that stand from an offset on
abbrev pub tokens_from : ℕ → List Part → List Token
tokens_from at [] = []
tokens_from at (p ∷ ps) = token_of p.piece at ++ tokens_from (at + length p.text) ps

-- the characters are parts to their end, and these are the tokens among them
pub record AreTokensOf (cs : List ℕ) (toks : List Token) : Type 0 where
  pub parts : List Part
  pub passes : Passes cs parts []
  pub tokens : toks ≡ tokens_from 0 parts
