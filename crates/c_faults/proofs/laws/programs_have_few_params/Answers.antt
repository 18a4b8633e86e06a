use Rattle.c_faults.proofs.ProgramSizes.{programs_have_few}
use Rattle.c_faults.proofs.laws.programs_have_few_params.Goals as goal

pub returns : goal.returns
returns c = programs_have_few
