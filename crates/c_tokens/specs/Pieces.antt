-- What a C text is cut into: a blank, a comment or a token, each as long as it can be.
use Rattle.std.specs.Prelude.{◌≡◌, ℕ, ◌^◌, ◌<◌, ◌≤◌, List, [], ◌∷◌, ◌++◌, length, codes, decimal, Bool, true, false, ◌==◌, ◌&&◌}
use Rattle.c_tokens.specs.Characters.{is_blank, is_digit, begins_word, continues_word, is_in_comment}
use Rattle.c_tokens.specs.Symbols.{symbol_text}
use Rattle.c_tokens.specs.declared.symbol.Symbol.{Symbol}

-- ---- runs

-- the text is a longest run: each of it passes the test, and what follows does not
abbrev pub IsRun : (ℕ → Bool) → List ℕ → List ℕ → Type 0
IsRun test [] [] = Unit {0}
IsRun test [] (c ∷ rest) = test c ≡ false
IsRun test (c ∷ text) rest = (test c ≡ true) × IsRun test text rest

-- a character that begins the text, and then a longest run of letters, digits and _
abbrev pub BeginsRun : (ℕ → Bool) → List ℕ → List ℕ → Type 0
BeginsRun begins [] rest = ⊥
BeginsRun begins (c ∷ text) rest = (begins c ≡ true) × IsRun continues_word text rest

-- ---- comments

-- these two characters stand at the start
abbrev pub begins_with_pair : ℕ → ℕ → List ℕ → Bool
begins_with_pair a b [] = false
begins_with_pair a b (c ∷ []) = false
begins_with_pair a b (c ∷ d ∷ rest) = (c == a) && (d == b)

-- where the end begins the text is the end alone, and else it goes on so
abbrev pub EndsOr : Bool → List ℕ → Type 0 → Type 0
EndsOr true text goes_on = text ≡ codes "/"
EndsOr false text goes_on = goes_on

-- characters of a comment up to and with the first */
abbrev pub IsToItsEnd : List ℕ → Type 0
IsToItsEnd [] = ⊥
IsToItsEnd (c ∷ text) = EndsOr (begins_with_pair 42 47 (c ∷ text)) text ((is_in_comment c ≡ true) × IsToItsEnd text)

-- a whole comment: /*, and what goes to its end
pub record IsComment (text : List ℕ) : Type 0 where
  pub inside : List ℕ
  pub is : text ≡ codes "/*" ++ inside
  pub to_its_end : IsToItsEnd inside

-- ---- tokens

-- a word, 0 or 1 alone, a constant, a symbol
pub data What : Type 0 where
  Word : (text : List ℕ) → What
  Bare Const : ℕ → What
  Sym : Symbol → What

-- each symbol that the text and its rest begin with is at most as long as the text
abbrev pub IsLongest : List ℕ → List ℕ → Type 0
IsLongest text rest = (s : Symbol) (behind : List ℕ) → text ++ rest ≡ symbol_text s ++ behind → length (symbol_text s) ≤ length text

-- no comment begins here: neither a whole one, nor one of those that C ends with the line
pub record BeginsNoComment (cs : List ℕ) : Type 0 where
  pub no_whole : (text rest : List ℕ) → cs ≡ text ++ rest → IsComment text → ⊥
  pub no_line : begins_with_pair 47 47 cs ≡ false

-- the text is this token, with that rest behind it
abbrev pub IsToken : What → List ℕ → List ℕ → Type 0
IsToken (Word w) text rest = BeginsRun begins_word text rest × (w ≡ text)
IsToken (Bare n) text rest = BeginsRun is_digit text rest × (text ≡ decimal n) × (n ≤ 1)
IsToken (Const n) text rest = BeginsRun is_digit text rest × (text ≡ decimal n ++ codes "ULL") × (n < 2 ^ 64)
IsToken (Sym s) text rest = (symbol_text s ≡ text) × IsLongest text rest × BeginsNoComment (text ++ rest)

pub data Piece : Type 0 where
  Blank Comment : Piece
  Token : What → Piece

-- the text is this piece, with that rest behind it
abbrev pub IsPiece : Piece → List ℕ → List ℕ → Type 0
IsPiece Blank text rest = (c : ℕ) × (text ≡ c ∷ []) × (is_blank c ≡ true)
IsPiece Comment text rest = IsComment text
IsPiece (Token what) text rest = IsToken what text rest
