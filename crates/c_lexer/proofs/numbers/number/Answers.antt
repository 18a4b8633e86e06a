use Rattle.std.proofs.Common.{sym, ◌∙◌, arith}
use Rattle.c_lexer.proofs.Digits.{no_leading_zero, no_other_character, no_large_number, large_value, whole_value, is_decimal_of_value}
use Rattle.c_lexer.proofs.numbers.number.Goals as goal

pub returns-then-begins_no_number : goal.returns-then-begins_no_number
returns-then-begins_no_number c = λ n small. no_leading_zero n c.args.digits.now small (sym c.begins_no_number.ensures ∙ c.if-begins_no_number.true)

pub returns-then-not-is_digit : goal.returns-then-not-is_digit
returns-then-not-is_digit c = λ n small. no_other_character n c.args.digits.now c.loop-c.c-index small c.loop-c-test.true (sym c.is_digit.ensures ∙ c.if-not-is_digit.true)

pub returns-in_err-value : goal.returns-in_err-value
returns-in_err-value c =
    rw c.from_residual.ensures (λ n small. no_large_number n c.args.digits.now small
    (large_value c.args.digits.now c.loop-c.value c.loop-c.c-index c.loop-c-test.true c.loop-c.invariant.value c.in_err-value.ensures))

pub returns : goal.returns
returns c =
    let end = c.loop-c-test.false in
    is_decimal_of_value c.args.digits.now c.loop-c.value (sym c.begins_no_number.ensures ∙ c.if-begins_no_number.false)
    (λ k below. c.loop-c.invariant.digits k (omega arith))
    (whole_value c.args.digits.now c.loop-c.value c.loop-c.c-index c.loop-c-test.false c.loop-c.invariant.value)
    c.loop-c.invariant.small
