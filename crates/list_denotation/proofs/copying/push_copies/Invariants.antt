use Rattle.std.proofs.Common.{◌≡◌, ◌++◌, drop}
use Rattle.list_denotation.specs.Copies.{terms_of}
use Rattle.list_denotation.proofs.copying.push_copies.Given as goal

-- with what is left, the row so far is all
abbrev pub invariant-loop-i : goal.invariant-loop-i
invariant-loop-i l = terms_of l.made ++ terms_of (drop l.i l.es) ≡ terms_of l.initial.made ++ terms_of l.es
