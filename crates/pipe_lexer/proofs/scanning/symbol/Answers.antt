use Rattle.std.proofs.Common.{◌≡◌, None, sym, ap, ◌∙◌, rules}
use Rattle.pipe_lexer.specs.Symbols.{symbol_of_one}
use Rattle.pipe_lexer.specs.Prefixes.{symbol_pair}
use Rattle.pipe_lexer.proofs.Firsts.{first_of}
use Rattle.pipe_lexer.proofs.SymbolPrefixes.{pair_stands, one_stands}
use Rattle.pipe_lexer.proofs.scanning.symbol.Goals as goal

pub returns-in-Some : goal.returns-in-Some
returns-in-Some c = pair_stands c.args.chars.now c.in-Some.symbol (sym c.in-Some.ensures)

pub returns : goal.returns
returns c =
    let none : symbol_pair c.args.chars.now ≡ None = search rules in
    let first = first_of c.args.chars.now c.index-chars-0.result c.requires c.index-chars-0.is in
    one_stands c.args.chars.now c.in_ok-symbol.symbol c.requires none (ap symbol_of_one first ∙ sym c.symbol_of_one.ensures ∙ c.in_ok-symbol.was)
