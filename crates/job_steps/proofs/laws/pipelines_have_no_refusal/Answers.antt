use Rattle.job_steps.proofs.PipelineFiles.{no_refusal}
use Rattle.job_steps.proofs.laws.pipelines_have_no_refusal.Goals as goal

pub returns : goal.returns
returns c = no_refusal
