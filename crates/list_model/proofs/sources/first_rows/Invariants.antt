use Rattle.std.proofs.Common.{◌≡◌, drop, ◌-◌, ◌≤◌}
use Rattle.list_denotation.specs.Rows.{firsts, single_rows}
use Rattle.list_model.specs.Listed.{onto}
use Rattle.list_model.proofs.sources.first_rows.Given as goal

abbrev pub invariant-loop-i : goal.invariant-loop-i
invariant-loop-i l = (l.i ≤ l.n) × (onto l.rows (firsts (l.n - l.i) (single_rows (drop l.i l.items))) ≡ firsts l.n (single_rows l.items))
