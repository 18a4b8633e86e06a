use Rattle.pipe_lexer.proofs.Firsts.{identifier_stands}
use Rattle.pipe_lexer.proofs.scanning.identifier.Goals as goal

pub returns : goal.returns
returns c = identifier_stands c.args.chars.now _ _ c.requires.some c.requires.begins c.identifier_len-len.ensures.run c.identifier_kind-kind.ensures
