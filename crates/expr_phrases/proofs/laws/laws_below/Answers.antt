use Rattle.expr_phrases.proofs.laws.laws_below.Goals as goal

pub returns : goal.returns
returns c = record {
  quotient = c.signed_division_divides_magnitudes.ensures.quotient;
  remainder = c.signed_division_divides_magnitudes.ensures.remainder;
  quotient_word = c.signed_division_divides_magnitudes.ensures.quotient_word;
  remainder_word = c.signed_division_divides_magnitudes.ensures.remainder_word;
  magnitude_word = c.signed_division_divides_magnitudes.ensures.magnitude_word;
  magnitude_not_zero = c.signed_division_divides_magnitudes.ensures.magnitude_not_zero;
  less = c.signed_order_flips_sign_bits.ensures;
}
