-- How a symbol is written tells which it is.
use Rattle.std.proofs.Common.{◌≡◌, ℕ, List, [], ◌∷◌, ◌==◌, Option, Some, None, refl, sym, ap, ◌∙◌}
use Rattle.std.specs.Prelude.{if◌then◌else◌}
use Rattle.c_tokens.specs.Symbols.{symbol_text}
use Rattle.c_tokens.specs.declared.symbol.Symbol.{Symbol}
use Rattle.c_tokens.specs.declared.symbol.Symbol.TheVariants.{OpenParen, CloseParen, OpenBrace, CloseBrace, OpenBracket, CloseBracket, Semicolon, Comma, Equal, EqualEqual, Less, AndAnd, BarBar, Bang, Plus, Minus, Star, Slash, Percent, Caret}

-- the symbol of one character
symbol_of_one : ℕ → Option Symbol
symbol_of_one c =
    if c == 40 then Some OpenParen else
    if c == 41 then Some CloseParen else
    if c == 123 then Some OpenBrace else
    if c == 125 then Some CloseBrace else
    if c == 91 then Some OpenBracket else
    if c == 93 then Some CloseBracket else
    if c == 59 then Some Semicolon else
    if c == 44 then Some Comma else
    if c == 61 then Some Equal else
    if c == 60 then Some Less else
    if c == 33 then Some Bang else
    if c == 43 then Some Plus else
    if c == 45 then Some Minus else
    if c == 42 then Some Star else
    if c == 47 then Some Slash else
    if c == 37 then Some Percent else
    if c == 94 then Some Caret else None

-- the symbol of a character that is there twice
symbol_of_two : ℕ → Option Symbol
symbol_of_two c =
    if c == 61 then Some EqualEqual else
    if c == 38 then Some AndAnd else
    if c == 124 then Some BarBar else None

-- a symbol by how it is written
symbol_named : List ℕ → Option Symbol
symbol_named [] = None
symbol_named (c ∷ []) = symbol_of_one c
symbol_named (c ∷ d ∷ cs) = symbol_of_two c

symbol_named-text : (s : Symbol) → symbol_named (symbol_text s) ≡ Some s
unfolding symbol_named symbol_of_one symbol_of_two
symbol_named-text OpenParen = refl
symbol_named-text CloseParen = refl
symbol_named-text OpenBrace = refl
symbol_named-text CloseBrace = refl
symbol_named-text OpenBracket = refl
symbol_named-text CloseBracket = refl
symbol_named-text Semicolon = refl
symbol_named-text Comma = refl
symbol_named-text Equal = refl
symbol_named-text EqualEqual = refl
symbol_named-text Less = refl
symbol_named-text AndAnd = refl
symbol_named-text BarBar = refl
symbol_named-text Bang = refl
symbol_named-text Plus = refl
symbol_named-text Minus = refl
symbol_named-text Star = refl
symbol_named-text Slash = refl
symbol_named-text Percent = refl
symbol_named-text Caret = refl

-- symbols that are written so are one
pub same_symbol : (s t : Symbol) → symbol_text s ≡ symbol_text t → s ≡ t
same_symbol s t e =
    let both : Some s ≡ Some t = sym (symbol_named-text s) ∙ ap symbol_named e ∙ symbol_named-text t in
    cc

-- each has a character
pub no_empty_symbol : (s : Symbol) → symbol_text s ≡ [] → ⊥
no_empty_symbol OpenParen e = absurd cc
no_empty_symbol CloseParen e = absurd cc
no_empty_symbol OpenBrace e = absurd cc
no_empty_symbol CloseBrace e = absurd cc
no_empty_symbol OpenBracket e = absurd cc
no_empty_symbol CloseBracket e = absurd cc
no_empty_symbol Semicolon e = absurd cc
no_empty_symbol Comma e = absurd cc
no_empty_symbol Equal e = absurd cc
no_empty_symbol EqualEqual e = absurd cc
no_empty_symbol Less e = absurd cc
no_empty_symbol AndAnd e = absurd cc
no_empty_symbol BarBar e = absurd cc
no_empty_symbol Bang e = absurd cc
no_empty_symbol Plus e = absurd cc
no_empty_symbol Minus e = absurd cc
no_empty_symbol Star e = absurd cc
no_empty_symbol Slash e = absurd cc
no_empty_symbol Percent e = absurd cc
no_empty_symbol Caret e = absurd cc
