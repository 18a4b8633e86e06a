use Rattle.std.proofs.Common.{◌∙◌, arith, rules}
use Rattle.std.proofs.lemmas.List.{take_rest}
use Rattle.c_lexer.proofs.NumberTokens.{no_large_name}
use Rattle.c_lexer.proofs.words.name_token.Goals as goal

pub returns-in-Err : goal.returns-in-Err
returns-in-Err c =
    let no = c.in-Err.ensures in
    no_large_name c.args.word.now c.in_ok-number.number (c.in_ok-number.ensures ∙ take_rest c.args.word.now 1) (search rules) (omega arith)
