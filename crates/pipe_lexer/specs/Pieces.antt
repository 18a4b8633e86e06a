-- What a text is cut into: a blank, a comment or a token, each as long as it can be.
use Rattle.std.specs.Prelude.{◌≡◌, ◌≢◌, ℕ, ◌+◌, ◌-◌, ◌*◌, ◌^◌, ◌<◌, ◌≤◌, List, [], ◌∷◌, ◌++◌, length, Bool, true, false}
use Rattle.pipe_lexer.specs.Characters.{is_blank, begins_comment, continues_comment, is_digit, begins_identifier, continues_identifier}
use Rattle.pipe_lexer.specs.Keywords.{keyword_text}
use Rattle.pipe_lexer.specs.Symbols.{symbol_text}
use Rattle.pipe_lexer.specs.declared.keyword.Keyword.{Keyword}
use Rattle.pipe_lexer.specs.declared.symbol.Symbol.{Symbol}
use Rattle.pipe_lexer.specs.declared.token.TokenKind.{TokenKind}
use Rattle.pipe_lexer.specs.declared.token.TokenKind.TheVariants.{Name, Number, Key, Sym}
use Rattle.pipe_lexer.specs.declared.piece.Piece.{Piece}
use Rattle.pipe_lexer.specs.declared.piece.Piece.TheVariants as piece

-- the text is a longest run: each of it passes the test, and what follows does not
abbrev pub IsRun : (ℕ → Bool) → List ℕ → List ℕ → Type 0
IsRun test [] [] = Unit {0}
IsRun test [] (c ∷ rest) = test c ≡ false
IsRun test (c ∷ text) rest = (test c ≡ true) × IsRun test text rest

-- a character that begins the text, and then a longest run
abbrev pub BeginsRun : (ℕ → Bool) → (ℕ → Bool) → List ℕ → List ℕ → Type 0
BeginsRun begins continues [] rest = ⊥
BeginsRun begins continues (c ∷ text) rest = (begins c ≡ true) × IsRun continues text rest

-- a keyword or a name, as long as it goes on
abbrev pub IsIdentifier : List ℕ → List ℕ → Type 0
IsIdentifier = BeginsRun begins_identifier continues_identifier

-- a longest run of one digit or more
abbrev pub IsDigits : List ℕ → List ℕ → Type 0
IsDigits = BeginsRun is_digit is_digit

-- the value of decimal digits that follow those of a value
abbrev pub value_with : ℕ → List ℕ → ℕ
value_with v [] = v
value_with v (c ∷ text) = value_with (v * 10 + (c - 48)) text

-- each symbol that the text and its rest begin with is at most as long as the text
abbrev pub IsLongest : List ℕ → List ℕ → Type 0
IsLongest text rest = (s : Symbol) (behind : List ℕ) → text ++ rest ≡ symbol_text s ++ behind → length (symbol_text s) ≤ length text

-- the text is this token, with that rest behind it
abbrev pub IsToken : TokenKind → List ℕ → List ℕ → Type 0
IsToken Name text rest = IsIdentifier text rest × ((k : Keyword) → keyword_text k ≢ text)
IsToken (Number n) text rest = IsDigits text rest × (value_with 0 text ≡ n) × (n < 2 ^ 63)
IsToken (Key k) text rest = IsIdentifier text rest × (keyword_text k ≡ text)
IsToken (Sym s) text rest = (symbol_text s ≡ text) × IsLongest text rest

-- the text is this piece, with that rest behind it
abbrev pub IsPiece : Piece → List ℕ → List ℕ → Type 0
IsPiece piece.Blank text rest = (c : ℕ) × (text ≡ c ∷ []) × (is_blank c ≡ true)
IsPiece piece.Comment text rest = BeginsRun begins_comment continues_comment text rest
IsPiece (piece.Token kind) text rest = IsToken kind text rest

-- at the start stands a number that is too large
pub record IsLargeNumber (cs : List ℕ) : Type 0 where
  pub text : List ℕ
  pub rest : List ℕ
  pub split : cs ≡ text ++ rest
  pub digits : IsDigits text rest
  pub large : 2 ^ 63 ≤ value_with 0 text

-- something stands at the start, and it begins no piece and no number
pub record IsBadChar (cs : List ℕ) : Type 0 where
  pub some : cs ≢ []
  pub no_piece : (p : Piece) (text rest : List ℕ) → cs ≡ text ++ rest → IsPiece p text rest → ⊥
  pub no_number : IsLargeNumber cs → ⊥
