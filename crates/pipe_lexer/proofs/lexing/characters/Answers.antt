use Rattle.std.proofs.Common.{rules}
use Rattle.std.proofs.lemmas.Str.{chars_from_encodes}
use Rattle.pipe_lexer.proofs.lexing.characters.Goals as goal

pub returns-in_ok-collect-in-Ok : goal.returns-in_ok-collect-in-Ok
returns-in_ok-collect-in-Ok c = search (rules, chars_from_encodes)
