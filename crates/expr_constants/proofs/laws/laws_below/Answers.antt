use Rattle.expr_constants.proofs.laws.laws_below.Goals as goal

pub returns : goal.returns
returns c = record {
  quotient_word = c.signed_division_divides_magnitudes.ensures.quotient_word;
  remainder_word = c.signed_division_divides_magnitudes.ensures.remainder_word;
}
