use Rattle.loop_ir.specs.Meaning.{meaning}
use Rattle.job_steps.proofs.Benches.{benched_one}
use Rattle.job_steps.proofs.Endings.{counting_one, listed_one, seen_one}
use Rattle.job_steps.proofs.laws.work_ends_in_one_way.Goals as goal

pub returns-clause-counting : goal.returns-clause-counting
returns-clause-counting c = counting_one

pub returns-clause-executing : goal.returns-clause-executing
returns-clause-executing c q inputs n = seen_one n (meaning q inputs n)

pub returns-clause-listing : goal.returns-clause-listing
returns-clause-listing c = listed_one

pub returns-clause-benching : goal.returns-clause-benching
returns-clause-benching c seed count = benched_one seed count c.files_are_one_pipeline.ensures
