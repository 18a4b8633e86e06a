use Rattle.job_steps.specs.Works.{Executing, Listing, Running}
use Rattle.job_steps.proofs.InputsFit.{inputs_fit}
use Rattle.job_steps.proofs.laws.inputs_of_work_fit.Goals as goal

pub returns-clause-running : goal.returns-clause-running
returns-clause-running c store words p inputs n = inputs_fit c.typed_trees_stand_for_programs.ensures store words (Running p inputs n)

pub returns-clause-listing : goal.returns-clause-listing
returns-clause-listing c store words p inputs n = inputs_fit c.typed_trees_stand_for_programs.ensures store words (Listing p inputs n)

pub returns-clause-executing : goal.returns-clause-executing
returns-clause-executing c store words q inputs n = inputs_fit c.typed_trees_stand_for_programs.ensures store words (Executing q inputs n)
