-- The symbols by their characters.
use Rattle.std.specs.Prelude.{ℕ, ◌==◌, List, [], ◌∷◌, Option, Some, None, if◌then◌else◌}
use Rattle.c_tokens.specs.declared.symbol.Symbol.{Symbol}
use Rattle.c_tokens.specs.declared.symbol.Symbol.TheVariants.{OpenParen, CloseParen, OpenBrace, CloseBrace, OpenBracket, CloseBracket, Semicolon, Comma, Equal, EqualEqual, Less, AndAnd, BarBar, Bang, Plus, Minus, Star, Slash, Percent, Caret}

-- the symbol of one character
abbrev pub symbol_of_one : ℕ → Option Symbol
symbol_of_one c =
    if c == 40 then Some OpenParen else
    if c == 41 then Some CloseParen else
    if c == 123 then Some OpenBrace else
    if c == 125 then Some CloseBrace else
    if c == 91 then Some OpenBracket else
    if c == 93 then Some CloseBracket else
    if c == 59 then Some Semicolon else
    if c == 44 then Some Comma else
    if c == 61 then Some Equal else
    if c == 60 then Some Less else
    if c == 33 then Some Bang else
    if c == 43 then Some Plus else
    if c == 45 then Some Minus else
    if c == 42 then Some Star else
    if c == 47 then Some Slash else
    if c == 37 then Some Percent else
    if c == 94 then Some Caret else None

-- the symbol of a character that is there twice
abbrev pub symbol_twice : ℕ → Option Symbol
symbol_twice c =
    if c == 61 then Some EqualEqual else
    if c == 38 then Some AndAnd else
    if c == 124 then Some BarBar else None

-- the symbol of the two characters at the start
abbrev pub symbol_pair : List ℕ → Option Symbol
symbol_pair [] = None
symbol_pair (c ∷ []) = None
symbol_pair (c ∷ d ∷ cs) = if c == d then symbol_twice c else None
