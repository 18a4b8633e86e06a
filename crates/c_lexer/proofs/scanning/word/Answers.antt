use Rattle.c_lexer.proofs.Firsts.{word_stands}
use Rattle.c_lexer.proofs.scanning.word.Goals as goal

pub returns-clause-stands : goal.returns-clause-stands
returns-clause-stands c = word_stands c.args.chars.now c.word_token-token.result c.run_len-len.result c.requires.some c.requires.begins c.run_len-len.ensures.run c.word_token-token.ensures
