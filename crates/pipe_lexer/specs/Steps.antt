-- What the steps of `tokens` give: the characters of bytes, and the tokens that characters are cut into.
use Rattle.std.specs.Prelude.{◌≡◌, ℕ, List, Result, Ok, Err}
use Rattle.std.specs.Global.{Vec}
use Rattle.std.specs.Str.{chars, IsUtf8, IsValidUpTo}
use Rattle.pipe_lexer.specs.Pieces.{IsLargeNumber, IsBadChar}
use Rattle.pipe_lexer.specs.Lexing.{AreTokensOf, StopsAt, Answer}
use Rattle.pipe_lexer.specs.declared.piece.Stop.{Stop}
use Rattle.pipe_lexer.specs.declared.piece.Stop.TheVariants as stop
use Rattle.pipe_lexer.specs.declared.fault.LexFault.{LexFault}
use Rattle.pipe_lexer.specs.declared.fault.LexFault.TheVariants as fault

-- the characters of a text, or that it is none
abbrev pub IsCharacters : List ℕ → Result (Vec ℕ) LexFault → Type 0
IsCharacters src (Ok cs) = IsUtf8 src × (cs.items ≡ chars src)
IsCharacters src (Err (fault.NotUtf8 at)) = IsValidUpTo src at
IsCharacters src (Err (fault.BadChar at)) = ⊥
IsCharacters src (Err (fault.NumberTooLarge at)) = ⊥
IsCharacters src (Err fault.NoMemory) = Unit {0}

-- what characters are answered with
abbrev pub IsCut : List ℕ → Answer → Type 0
IsCut cs (Ok toks) = AreTokensOf cs toks
IsCut cs (Err (fault.NotUtf8 at)) = ⊥
IsCut cs (Err (fault.BadChar at)) = StopsAt cs at IsBadChar
IsCut cs (Err (fault.NumberTooLarge at)) = StopsAt cs at IsLargeNumber
IsCut cs (Err fault.NoMemory) = Unit {0}

-- the fault at an offset where characters stop
abbrev pub fault_of : Stop → ℕ → LexFault
fault_of stop.BadChar at = fault.BadChar at
fault_of stop.NumberTooLarge at = fault.NumberTooLarge at
