use Rattle.job_steps.proofs.Endings.{undefined_program}
use Rattle.job_steps.proofs.laws.pipelines_are_never_undefined.Goals as goal

pub returns : goal.returns
returns c store words = undefined_program store words c.no_observation_is_stuck.ensures (c.inputs_of_work_fit.ensures.running store words)
