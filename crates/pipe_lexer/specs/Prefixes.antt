-- Which piece stands at the start of characters, as the functions that look at them say it.
use Rattle.std.specs.Prelude.{◌≡◌, ◌≢◌, ◌^◌, ◌<◌, ◌≤◌, nat_lt, ℕ, List, [], ◌∷◌, ◌++◌, length, take, drop, Option, Some, None, Result, Ok, Err, if◌then◌else◌}
use Rattle.pipe_lexer.specs.Symbols.{symbol_text, symbol_of_two}
use Rattle.pipe_lexer.specs.Keywords.{keyword_text}
use Rattle.pipe_lexer.specs.Pieces.{IsPiece, IsLargeNumber, IsBadChar}
use Rattle.pipe_lexer.specs.declared.keyword.Keyword.{Keyword}
use Rattle.pipe_lexer.specs.declared.symbol.Symbol.{Symbol}
use Rattle.pipe_lexer.specs.declared.token.TokenKind.{TokenKind}
use Rattle.pipe_lexer.specs.declared.token.TokenKind.TheVariants.{Name, Number, Key, Sym}
use Rattle.pipe_lexer.specs.declared.piece.Piece.{Piece}
use Rattle.pipe_lexer.specs.declared.piece.Prefix.{Prefix}
use Rattle.pipe_lexer.specs.declared.piece.Stop.{Stop}
use Rattle.pipe_lexer.specs.declared.piece.Stop.TheVariants as stop

-- a piece of this many characters, one or more, stands at the start
pub record StandsAtPrefix (cs : List ℕ) (p : Piece) (len : ℕ) : Type 0 where
  pub some : 0 < len
  pub within : len ≤ length cs
  pub piece : IsPiece p (take len cs) (drop len cs)

-- the piece at the start, or why none stands there
abbrev pub HasPrefix : List ℕ → Result Prefix Stop → Type 0
HasPrefix cs (Ok prefix) = StandsAtPrefix cs prefix.piece prefix.len
HasPrefix cs (Err stop.BadChar) = IsBadChar cs
HasPrefix cs (Err stop.NumberTooLarge) = IsLargeNumber cs

-- the symbol of the two characters at the start
abbrev pub symbol_pair : List ℕ → Option Symbol
symbol_pair [] = None
symbol_pair (c ∷ []) = None
symbol_pair (c ∷ d ∷ cs) = symbol_of_two c d

-- the longest symbol at the start, or that no symbol stands there
abbrev pub HasSymbol : List ℕ → Option Prefix → Type 0
HasSymbol cs None = (s : Symbol) (behind : List ℕ) → cs ≢ symbol_text s ++ behind
HasSymbol cs (Some prefix) = StandsAtPrefix cs prefix.piece prefix.len

-- what an identifier is: the keyword that is written so, else a name
abbrev pub IsIdentifierKind : List ℕ → TokenKind → Type 0
IsIdentifierKind identifier Name = (k : Keyword) → keyword_text k ≢ identifier
IsIdentifierKind identifier (Key k) = keyword_text k ≡ identifier
IsIdentifierKind identifier (Number n) = ⊥
IsIdentifierKind identifier (Sym s) = ⊥

-- a number, or none where it is too large
abbrev pub within_limit : ℕ → Option ℕ
within_limit n = if nat_lt n (2 ^ 63) then Some n else None
