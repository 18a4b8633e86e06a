use Rattle.std.proofs.Common.{sym, ap, ◌∙◌, rules}
use Rattle.std.proofs.lemmas.List.{take_rest}
use Rattle.c_lexer.specs.Comments.{comment_end}
use Rattle.c_lexer.proofs.SlashPlaces.{comment_stands, open_there, slash_stands_open}
use Rattle.c_lexer.proofs.scanning.comment.Goals as goal

pub returns-in-Some-clause-stands : goal.returns-in-Some-clause-stands
returns-in-Some-clause-stands c = comment_stands c.args.chars.now c.in-Some.len c.requires.begins (ap comment_end (sym (take_rest c.args.chars.now 2)) ∙ sym c.in-Some.ensures.value)

pub returns-in_default-clause-stands : goal.returns-in_default-clause-stands
returns-in_default-clause-stands c =
    slash_stands_open c.args.chars.now c.requires.begins
    (open_there c.args.chars.now c.requires.begins (ap comment_end (sym (take_rest c.args.chars.now 2)) ∙ sym c.comment_end.ensures.value ∙ c.in_default.is))

pub returns-in_default-clause-open : goal.returns-in_default-clause-open
returns-in_default-clause-open c = λ e.
    open_there c.args.chars.now c.requires.begins (ap comment_end (sym (take_rest c.args.chars.now 2)) ∙ sym c.comment_end.ensures.value ∙ c.in_default.is)

pub returns-else-not-is_open-clause-stands : goal.returns-else-not-is_open-clause-stands
returns-else-not-is_open-clause-stands c = slash_stands_open c.args.chars.now c.requires.begins (c.requires.unclosed (search rules))
