-- Which piece stands at the start of characters.
use Rattle.std.specs.Prelude.{◌≡◌, ℕ, ◌<◌, ◌≤◌, List, ◌++◌, length, take, drop, Option, Some, None}
use Rattle.c_tokens.specs.Symbols.{symbol_text}
use Rattle.c_tokens.specs.Pieces as piece
use Rattle.c_tokens.specs.Pieces.{What, IsPiece, IsToken}
use Rattle.c_tokens.specs.declared.symbol.Symbol.{Symbol}
use Rattle.c_words.specs.Words.{StandsFor}
use Rattle.c_lexer.specs.declared.piece.Piece.{Piece}
use Rattle.c_lexer.specs.declared.piece.Piece.TheVariants.{Blank, Comment, Token}
use Rattle.c_lexer.specs.declared.piece.Prefix.{Prefix}

-- the text is this piece, with that rest behind it
abbrev pub Stands : Piece → List ℕ → List ℕ → Type 0
Stands Blank text rest = IsPiece piece.Blank text rest
Stands Comment text rest = IsPiece piece.Comment text rest
Stands (Token t) text rest = (what : What) × (StandsFor t what × IsToken what text rest)

-- a piece of this many characters, one or more, stands at the start
pub record StandsAtPrefix (cs : List ℕ) (p : Piece) (len : ℕ) : Type 0 where
  pub some : 0 < len
  pub within : len ≤ length cs
  pub piece : Stands p (take len cs) (drop len cs)

-- no piece begins the characters
abbrev pub BeginsNoPiece : List ℕ → Type 0
BeginsNoPiece cs = (p : piece.Piece) (text rest : List ℕ) → cs ≡ text ++ rest → IsPiece p text rest → ⊥

-- the piece at the start, or that none stands there
abbrev pub HasPrefix : List ℕ → Option Prefix → Type 0
HasPrefix cs None = BeginsNoPiece cs
HasPrefix cs (Some prefix) = StandsAtPrefix cs prefix.piece prefix.len

-- the symbol at the start, or that none stands there
abbrev pub HasSymbol : List ℕ → Option Prefix → Type 0
HasSymbol cs None = (s : Symbol) (behind : List ℕ) → cs ≡ symbol_text s ++ behind → ⊥
HasSymbol cs (Some prefix) = StandsAtPrefix cs prefix.piece prefix.len
