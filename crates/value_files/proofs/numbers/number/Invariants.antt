use Rattle.std.proofs.Common.{◌≡◌, take}
use Rattle.value_files.specs.Numbers.{number_with, within_word}
use Rattle.value_files.proofs.numbers.number.Given as goal

abbrev pub invariant-loop-digit : goal.invariant-loop-digit
invariant-loop-digit l = l.number ≡ within_word (number_with 0 (take l.digit-index l.digits))
