-- How the symbols are written.
use Rattle.std.specs.Prelude.{ℕ, List, codes}
use Rattle.c_tokens.specs.declared.symbol.Symbol.{Symbol}
use Rattle.c_tokens.specs.declared.symbol.Symbol.TheVariants.{OpenParen, CloseParen, OpenBrace, CloseBrace, OpenBracket, CloseBracket, Semicolon, Comma, Equal, EqualEqual, Less, AndAnd, BarBar, Bang, Plus, Minus, Star, Slash, Percent, Caret}

abbrev pub symbol_text : Symbol → List ℕ
symbol_text OpenParen = codes "("
symbol_text CloseParen = codes ")"
symbol_text OpenBrace = codes "{"
symbol_text CloseBrace = codes "}"
symbol_text OpenBracket = codes "["
symbol_text CloseBracket = codes "]"
symbol_text Semicolon = codes ";"
symbol_text Comma = codes ","
symbol_text Equal = codes "="
symbol_text EqualEqual = codes "=="
symbol_text Less = codes "<"
symbol_text AndAnd = codes "&&"
symbol_text BarBar = codes "||"
symbol_text Bang = codes "!"
symbol_text Plus = codes "+"
symbol_text Minus = codes "-"
symbol_text Star = codes "*"
symbol_text Slash = codes "/"
symbol_text Percent = codes "%"
symbol_text Caret = codes "^"
