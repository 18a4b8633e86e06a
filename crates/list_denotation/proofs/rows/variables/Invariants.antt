use Rattle.std.proofs.Common.{◌≡◌, ◌++◌, ◌+◌, ◌-◌}
use Rattle.list_denotation.specs.Copies.{terms_of}
use Rattle.list_denotation.specs.TermRows.{variables}
use Rattle.list_denotation.proofs.rows.variables.Given as goal

-- what is made, and then the variables left, are all
abbrev pub invariant-loop-i : goal.invariant-loop-i
invariant-loop-i l = terms_of l.made ++ variables (l.first + l.i) (l.count - l.i) ≡ variables l.first l.count
