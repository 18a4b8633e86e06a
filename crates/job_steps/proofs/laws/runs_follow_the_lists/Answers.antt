use Rattle.job_steps.proofs.RunsAndLists.{run_between}
use Rattle.job_steps.proofs.laws.runs_follow_the_lists.Goals as goal

pub returns : goal.returns
returns c = run_between c.runs_grow.ensures c.far_is_an_order.ensures.transitive
