use Rattle.std.proofs.Common.{List, ℕ, ◌++◌, codes, None, Some, sym, ap, ◌∙◌, rules}
use Rattle.std.proofs.lemmas.Bool.Decides.{Decides-eqb}
use Rattle.std.proofs.lemmas.Slice.Eq.{strip_suffix_is}
use Rattle.c_lexer.proofs.NumberTokens.{no_constant, no_bare}
use Rattle.c_lexer.proofs.numbers.number_token.Goals as goal

pub returns-in_err-number : goal.returns-in_err-number
returns-in_err-number c =
    rw c.from_residual.ensures
    (no_constant c.args.text.now c.in-Some.digits.now (strip_suffix_is Decides-eqb c.args.text.now (codes "ULL") (Some c.in-Some.digits) c.in-Some.ensures.cases) c.in_err-number.ensures)

pub returns-in-Some : goal.returns-in-Some
returns-in-Some c =
    (strip_suffix_is Decides-eqb c.args.text.now (codes "ULL") (Some c.in-Some.digits) c.in-Some.ensures.cases ∙ ap (λ (xs : List ℕ). xs ++ codes "ULL") (sym c.in_ok-number.ensures), search rules)

pub returns-else-number-le1 : goal.returns-else-number-le1
returns-else-number-le1 c =
    no_bare c.args.text.now c.in_ok-number-2.number c.in_ok-number-2.ensures (search rules) c.if-number-le1.false
    (strip_suffix_is Decides-eqb c.args.text.now (codes "ULL") None c.in_default.ensures.cases)
