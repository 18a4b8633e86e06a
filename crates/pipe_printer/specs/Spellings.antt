-- The tokens that a text can hold.
use Rattle.std.specs.Prelude.{◌^◌, ◌<◌, []}
use Rattle.std.specs.Str.{chars, IsUtf8}
use Rattle.pipe_lexer.specs.Pieces.{IsToken}
use Rattle.pipe_lexer.specs.declared.token.TokenKind.TheVariants as kind
use Rattle.pipe_tree.specs.Tokens.{What, Named, Number, Key, Sym}

-- a name is UTF-8, and its characters are a name; a number is within the limit
abbrev pub IsSpelling : What → Type 0
IsSpelling (Named text) = IsUtf8 text × IsToken kind.Name (chars text) []
IsSpelling (Number n) = n < 2 ^ 63
IsSpelling (Key k) = Unit {0}
IsSpelling (Sym s) = Unit {0}
