use Rattle.list_denotation.proofs.TypedLeaves.{reads_bound, names_declared}
use Rattle.list_denotation.proofs.laws.typed_expressions_read_the_scope.Goals as goal

pub returns : goal.returns
returns c = record { bound = reads_bound; inputs = names_declared }
