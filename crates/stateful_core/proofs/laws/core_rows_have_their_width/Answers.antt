use Rattle.stateful_core.proofs.CoreRowWidths.{wide_rows}
use Rattle.stateful_core.proofs.laws.core_rows_have_their_width.Goals as goal

pub returns : goal.returns
returns c = wide_rows
