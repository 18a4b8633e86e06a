use Rattle.std.proofs.Common.{◌≡◌, None, sym, ◌∙◌, rules}
use Rattle.c_lexer.specs.Symbols.{symbol_pair}
use Rattle.c_lexer.proofs.Firsts.{pair_stands, one_symbol_stands}
use Rattle.c_lexer.proofs.scanning.symbol.Goals as goal

pub returns-in-Some-clause-stands : goal.returns-in-Some-clause-stands
returns-in-Some-clause-stands c = pair_stands c.args.chars.now c.in-Some.symbol (sym c.in-Some.ensures)

pub returns-clause-stands : goal.returns-clause-stands
returns-clause-stands c =
    let none : symbol_pair c.args.chars.now ≡ None = search rules in
    one_symbol_stands c.args.chars.now c.in_ok-symbol.symbol c.requires.some c.requires.no_slash none (sym c.symbol_of_one.ensures ∙ c.in_ok-symbol.was)
