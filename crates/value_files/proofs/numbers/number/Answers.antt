use Rattle.std.proofs.Common.{take, ap, ◌∙◌, sym, arith}
use Rattle.value_files.specs.Numbers.{number_with, within_word}
use Rattle.value_files.proofs.Digits.{number_with-take_more}
use Rattle.value_files.proofs.numbers.number.Goals as goal

pub loop-digit-preserved : goal.loop-digit-preserved
loop-digit-preserved c =
    let digits = c.args.digits.now in
    let before = number_with 0 (take c.loop-digit.digit-index digits) in
    let grown = c.with_digit-number.ensures before c.loop-digit.invariant in
    grown ∙ ap within_word (sym (number_with-take_more 0 digits c.loop-digit.digit-index 0 (omega arith)))
