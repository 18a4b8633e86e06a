-- How the rows of a pipeline are made.
use Rattle.std.specs.Prelude.{List}
use Rattle.job_steps.specs.Works.{Work, Running, Listing}
use Rattle.list_denotation.specs.declared.input.Input.{Input}
use Rattle.list_denotation.specs.Terms.{Pipeline}
use Rattle.job_work.specs.declared.working.Way.{Way}
use Rattle.job_work.specs.declared.working.Way.TheVariants.{Loops, Lists}

abbrev pub work_of : Way → Pipeline → List Input → Work
work_of (Loops turns) p inputs = Running p inputs turns
work_of (Lists pulls) p inputs = Listing p inputs pulls
