-- How the symbols are written, and which symbol characters are.
use Rattle.std.specs.Prelude.{ℕ, List, codes, ◌==◌, ◌&&◌, Option, Some, None, if◌then◌else◌}
use Rattle.pipe_lexer.specs.declared.symbol.Symbol.{Symbol}
use Rattle.pipe_lexer.specs.declared.symbol.Symbol.TheVariants.{Bar, BarBar, AndAnd, Arrow, EqualEqual, BangEqual, Less, LessEqual, Greater, GreaterEqual, Plus, Minus, Times, Slash, Percent, Bang, OpenParen, CloseParen, OpenBrace, CloseBrace, OpenBracket, CloseBracket, Comma, Colon, Semicolon}

-- the characters of a symbol
abbrev pub symbol_text : Symbol → List ℕ
symbol_text Bar = codes "|"
symbol_text BarBar = codes "||"
symbol_text AndAnd = codes "&&"
symbol_text Arrow = codes "->"
symbol_text EqualEqual = codes "=="
symbol_text BangEqual = codes "!="
symbol_text Less = codes "<"
symbol_text LessEqual = codes "<="
symbol_text Greater = codes ">"
symbol_text GreaterEqual = codes ">="
symbol_text Plus = codes "+"
symbol_text Minus = codes "-"
symbol_text Times = codes "*"
symbol_text Slash = codes "/"
symbol_text Percent = codes "%"
symbol_text Bang = codes "!"
symbol_text OpenParen = codes "("
symbol_text CloseParen = codes ")"
symbol_text OpenBrace = codes "{"
symbol_text CloseBrace = codes "}"
symbol_text OpenBracket = codes "["
symbol_text CloseBracket = codes "]"
symbol_text Comma = codes ","
symbol_text Colon = codes ":"
symbol_text Semicolon = codes ";"

-- the symbol of one character
abbrev pub symbol_of_one : ℕ → Option Symbol
symbol_of_one c =
    if c == 124 then Some Bar else
    if c == 60 then Some Less else
    if c == 62 then Some Greater else
    if c == 43 then Some Plus else
    if c == 45 then Some Minus else
    if c == 42 then Some Times else
    if c == 47 then Some Slash else
    if c == 37 then Some Percent else
    if c == 33 then Some Bang else
    if c == 40 then Some OpenParen else
    if c == 41 then Some CloseParen else
    if c == 123 then Some OpenBrace else
    if c == 125 then Some CloseBrace else
    if c == 91 then Some OpenBracket else
    if c == 93 then Some CloseBracket else
    if c == 44 then Some Comma else
    if c == 58 then Some Colon else
    if c == 59 then Some Semicolon else None

-- the symbol of two characters
abbrev pub symbol_of_two : ℕ → ℕ → Option Symbol
symbol_of_two c d =
    if (c == 124) && (d == 124) then Some BarBar else
    if (c == 38) && (d == 38) then Some AndAnd else
    if (c == 45) && (d == 62) then Some Arrow else
    if (c == 61) && (d == 61) then Some EqualEqual else
    if (c == 33) && (d == 61) then Some BangEqual else
    if (c == 60) && (d == 61) then Some LessEqual else
    if (c == 62) && (d == 61) then Some GreaterEqual else None
