use Rattle.std.proofs.Common.{◌≡◌, ◌-◌, ◌≤◌}
use Rattle.list_denotation.specs.Denotation.{words_from, words_between}
use Rattle.list_denotation.specs.Rows.{firsts, single_rows}
use Rattle.list_model.specs.Listed.{onto}
use Rattle.list_model.proofs.sources.words_between.Given as goal

abbrev pub invariant-loop-i : goal.invariant-loop-i
invariant-loop-i l = (l.i ≤ l.n) × (onto l.rows (firsts (l.n - l.i) (single_rows (words_from (l.count - l.i) l.x))) ≡ firsts l.n (single_rows (words_between l.fn.low l.fn.high)))
