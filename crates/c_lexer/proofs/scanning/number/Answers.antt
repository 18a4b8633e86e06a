use Rattle.c_lexer.proofs.Firsts.{number_stands, no_number_there}
use Rattle.c_lexer.proofs.scanning.number.Goals as goal

pub returns-in_err-token-clause-stands : goal.returns-in_err-token-clause-stands
returns-in_err-token-clause-stands c = rw c.from_residual.ensures (no_number_there c.args.chars.now c.run_len-len.result c.requires.some c.requires.begins c.run_len-len.ensures.run c.in_err-token.ensures)

pub returns-clause-stands : goal.returns-clause-stands
returns-clause-stands c = number_stands c.args.chars.now c.in_ok-token.token c.run_len-len.result c.requires.some c.requires.begins c.run_len-len.ensures.run c.in_ok-token.ensures
