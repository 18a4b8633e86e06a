-- Whether a reader sees the same in two tokens.
use Rattle.std.specs.Prelude.{ℕ, Bool, false, ◌==◌, ◌&&◌}
use Rattle.c_tokens.specs.declared.symbol.Symbol.{Symbol}
use Rattle.c_tokens.specs.declared.symbol.Symbol.TheVariants as sym
use Rattle.c_words.specs.declared.token.Keyword.{Keyword}
use Rattle.c_words.specs.declared.token.Keyword.TheVariants as keyword
use Rattle.c_words.specs.declared.token.Letter.{Letter}
use Rattle.c_words.specs.declared.token.Letter.TheVariants as letter
use Rattle.c_words.specs.declared.token.CToken.{CToken}
use Rattle.c_words.specs.declared.token.CToken.TheVariants.{Key, Name, Bare, Constant, Sym}

-- the places of keywords, letters and symbols in their order
abbrev pub keyword_place : Keyword → ℕ
keyword_place keyword.Int = 0
keyword_place keyword.Pipeline = 1
keyword_place keyword.Void = 2
keyword_place keyword.Const = 3
keyword_place keyword.Uint64 = 4
keyword_place keyword.If = 5
keyword_place keyword.Else = 6
keyword_place keyword.While = 7
keyword_place keyword.Break = 8
keyword_place keyword.Return = 9
keyword_place keyword.Emit = 10
keyword_place keyword.EndRow = 11

abbrev pub letter_place : Letter → ℕ
letter_place letter.Variable = 0
letter_place letter.Array = 1
letter_place letter.Length = 2
letter_place letter.Int = 3

abbrev pub symbol_place : Symbol → ℕ
symbol_place sym.OpenParen = 0
symbol_place sym.CloseParen = 1
symbol_place sym.OpenBrace = 2
symbol_place sym.CloseBrace = 3
symbol_place sym.OpenBracket = 4
symbol_place sym.CloseBracket = 5
symbol_place sym.Semicolon = 6
symbol_place sym.Comma = 7
symbol_place sym.Equal = 8
symbol_place sym.EqualEqual = 9
symbol_place sym.Less = 10
symbol_place sym.AndAnd = 11
symbol_place sym.BarBar = 12
symbol_place sym.Bang = 13
symbol_place sym.Plus = 14
symbol_place sym.Minus = 15
symbol_place sym.Star = 16
symbol_place sym.Slash = 17
symbol_place sym.Percent = 18
symbol_place sym.Caret = 19

-- other words are never the same, since a reader doesn't see their characters
abbrev pub is_same_token : CToken → CToken → Bool
is_same_token (Key a) (Key b) = keyword_place a == keyword_place b
is_same_token (Name l j) (Name m k) = (letter_place l == letter_place m) && (j == k)
is_same_token (Bare m) (Bare n) = m == n
is_same_token (Constant m) (Constant n) = m == n
is_same_token (Sym a) (Sym b) = symbol_place a == symbol_place b
is_same_token a b = false
