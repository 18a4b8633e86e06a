use Rattle.std.proofs.Common.{◌≡◌, drop}
use Rattle.list_denotation.specs.Copies.{terms_of}
use Rattle.list_denotation.specs.Counts.{joint_count, row_measure}
use Rattle.list_denotation.proofs.counts.row_measure.Given as goal

-- what is counted so far, and what is counted of the expressions left, are all
abbrev pub invariant-loop-i : goal.invariant-loop-i
invariant-loop-i l =
    joint_count l.what l.counted (row_measure l.what (terms_of (drop l.i l.row))) ≡ row_measure l.what (terms_of l.row)
