use Rattle.std.proofs.Common.{◌≡◌, ◌<◌, ◌^◌, ℕ, drop, get_or, true}
use Rattle.c_tokens.specs.Characters.{is_digit}
use Rattle.c_lexer.proofs.Digits.{value_with}
use Rattle.c_lexer.proofs.numbers.number.Given as goal

abbrev pub invariant-loop-c : goal.invariant-loop-c
invariant-loop-c l = record {
  digits : (k : ℕ) → k < l.c-index → is_digit (get_or l.digits k 0) ≡ true;
  small : l.value < 2 ^ 64;
  value : value_with l.value (drop l.c-index l.digits) ≡ value_with 0 l.digits;
}
