use Rattle.std.proofs.Common.{ℕ, List}
use Rattle.denotation_laws.proofs.JoinedRows.{join_same}
use Rattle.denotation_laws.proofs.OpeningSums.{sum_same}
use Rattle.denotation_laws.proofs.laws.joined_rows_depend_on_inner_lists.Goals as goal

pub returns : goal.returns
returns c = record { joins = join_same; sums = sum_same {A = ℕ}; sums_of_lists = sum_same {A = List ℕ} }
