use Rattle.c_faults.proofs.VariableCounts.{variables_are_few}
use Rattle.c_faults.proofs.laws.programs_of_texts_have_few_variables.Goals as goal

pub returns : goal.returns
returns c = variables_are_few
