use Rattle.std.proofs.Common.{rules, sym, ◌∙◌}
use Rattle.pipe_lexer.proofs.Firsts.{number_stands, number_large}
use Rattle.pipe_lexer.proofs.scanning.number.Goals as goal

pub returns-in-None : goal.returns-in-None
returns-in-None c = number_large c.args.chars.now _ c.requires.some c.requires.begins c.digits_len-len.ensures.run (sym c.value.ensures ∙ search rules)

pub returns-in-Some : goal.returns-in-Some
returns-in-Some c = number_stands c.args.chars.now _ _ c.requires.some c.requires.begins c.digits_len-len.ensures.run (sym c.value.ensures ∙ search rules)
