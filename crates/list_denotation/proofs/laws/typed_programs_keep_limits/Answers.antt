use Rattle.list_denotation.proofs.Limits.{kept}
use Rattle.list_denotation.proofs.TypedKinds.{typed_stream}
use Rattle.list_denotation.proofs.laws.typed_programs_keep_limits.Goals as goal

pub returns : goal.returns
returns c = record { limits = kept; kinds = typed_stream }
