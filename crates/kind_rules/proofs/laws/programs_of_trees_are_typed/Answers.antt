use Rattle.kind_rules.proofs.TypedPrograms.{typed_program}
use Rattle.kind_rules.proofs.laws.programs_of_trees_are_typed.Goals as goal

pub returns : goal.returns
returns c = typed_program
