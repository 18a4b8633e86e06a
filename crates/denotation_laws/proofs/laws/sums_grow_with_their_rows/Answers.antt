use Rattle.denotation_laws.proofs.OpeningSums.{sum_at_most}
use Rattle.denotation_laws.proofs.laws.sums_grow_with_their_rows.Goals as goal

pub returns : goal.returns
returns c = sum_at_most
