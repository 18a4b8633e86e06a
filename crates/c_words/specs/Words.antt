-- What a reader sees in a token.
use Rattle.std.specs.Prelude.{◌≡◌, ◌≢◌, ℕ, ◌^◌, ◌<◌, List, ◌++◌, codes, decimal}
use Rattle.c_tokens.specs.Pieces as piece
use Rattle.c_tokens.specs.Pieces.{What, Word}
use Rattle.c_words.specs.declared.token.Keyword.{Keyword}
use Rattle.c_words.specs.declared.token.Keyword.TheVariants as keyword
use Rattle.c_words.specs.declared.token.Letter.{Letter}
use Rattle.c_words.specs.declared.token.Letter.TheVariants as letter
use Rattle.c_words.specs.declared.token.CToken.{CToken}
use Rattle.c_words.specs.declared.token.CToken.TheVariants.{Key, Name, OtherWord, Bare, Constant, Sym}

abbrev pub keyword_text : Keyword → List ℕ
keyword_text keyword.Int = codes "int"
keyword_text keyword.Pipeline = codes "pipeline"
keyword_text keyword.Void = codes "void"
keyword_text keyword.Const = codes "const"
keyword_text keyword.Uint64 = codes "uint64_t"
keyword_text keyword.If = codes "if"
keyword_text keyword.Else = codes "else"
keyword_text keyword.While = codes "while"
keyword_text keyword.Break = codes "break"
keyword_text keyword.Return = codes "return"
keyword_text keyword.Emit = codes "EMIT"
keyword_text keyword.EndRow = codes "ENDROW"

abbrev pub letter_text : Letter → List ℕ
letter_text letter.Variable = codes "v"
letter_text letter.Array = codes "a"
letter_text letter.Length = codes "n"
letter_text letter.Int = codes "i"

-- a word that is neither a keyword nor a name
pub record IsOtherWord (text : List ℕ) : Type 0 where
  pub no_keyword : (k : Keyword) → keyword_text k ≢ text
  pub no_name : (l : Letter) (n : ℕ) → n < 2 ^ 32 → letter_text l ++ decimal n ≢ text

-- this is what a reader sees in the token
abbrev pub StandsFor : CToken → What → Type 0
StandsFor (Key k) what = what ≡ Word (keyword_text k)
StandsFor (Name l n) what = (n < 2 ^ 32) × (what ≡ Word (letter_text l ++ decimal n))
StandsFor OtherWord what = (text : List ℕ) × ((what ≡ Word text) × IsOtherWord text)
StandsFor (Bare n) what = what ≡ piece.Bare n
StandsFor (Constant n) what = what ≡ piece.Const n
StandsFor (Sym s) what = what ≡ piece.Sym s
