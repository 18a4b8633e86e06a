use Rattle.std.proofs.Common.{◌≡◌, ◌-◌, ◌++◌}
use Rattle.list_denotation.specs.Copies.{terms_of}
use Rattle.zip_linearise.specs.HeldRows.{zeros}
use Rattle.zip_linearise.proofs.holding.push_zeros.Given as goal

-- with the zeros that are left, the row so far is all
abbrev pub invariant-loop-i : goal.invariant-loop-i
invariant-loop-i l = terms_of l.made ++ zeros (l.n - l._i) ≡ terms_of l.initial.made ++ zeros l.n
