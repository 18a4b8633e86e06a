use Rattle.strm_num.proofs.Signed.{quotient_is, quotient_word, remainder_is, remainder_word, magnitude_word, magnitude_not_zero}
use Rattle.strm_num.proofs.laws.signed_division_divides_magnitudes.Goals as goal

pub returns-clause-quotient : goal.returns-clause-quotient
returns-clause-quotient c = quotient_is

pub returns-clause-remainder : goal.returns-clause-remainder
returns-clause-remainder c = remainder_is

pub returns-clause-quotient_word : goal.returns-clause-quotient_word
returns-clause-quotient_word c = quotient_word

pub returns-clause-remainder_word : goal.returns-clause-remainder_word
returns-clause-remainder_word c = remainder_word

pub returns-clause-magnitude_word : goal.returns-clause-magnitude_word
returns-clause-magnitude_word c = magnitude_word

pub returns-clause-magnitude_not_zero : goal.returns-clause-magnitude_not_zero
returns-clause-magnitude_not_zero c = magnitude_not_zero
