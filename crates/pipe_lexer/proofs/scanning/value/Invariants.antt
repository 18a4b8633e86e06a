use Rattle.std.proofs.Common.{◌≡◌, take}
use Rattle.pipe_lexer.specs.Pieces.{value_with}
use Rattle.pipe_lexer.specs.Prefixes.{within_limit}
use Rattle.pipe_lexer.proofs.scanning.value.Given as goal

abbrev pub invariant-loop-c : goal.invariant-loop-c
invariant-loop-c l = l.value ≡ within_limit (value_with 0 (take l.c-index l.digits))
