use Rattle.std.proofs.Common.{◌≡◌, take}
use Rattle.pipe_lexer.specs.Characters.{size_of}
use Rattle.pipe_lexer.proofs.lexing.size.Given as goal

abbrev pub invariant-loop-c : goal.invariant-loop-c
invariant-loop-c l = l.size ≡ size_of (take l.c-index l.chars)
