-- A file that is short enough has no refusal exactly where it is some pipeline.
use Rattle.std.proofs.Common.{◌≤◌, ◌↔◌, ℕ, List, length, None}
use Rattle.list_denotation.specs.Terms.{Pipeline}
use Rattle.pipe_limits.specs.declared.TheConstants.{MOST_BYTES}
use Rattle.job_steps.specs.Pipelines.{IsPipelineFile, HasRefusal}

pub no_refusal : (src : List ℕ) → length src ≤ MOST_BYTES → HasRefusal src None ↔ ((p : Pipeline) × IsPipelineFile src p)
no_refusal src within = (
  λ h. (h.0.pipeline, record { within = within; names = h.0.names; reads = h.1 }),
  λ k. (record { names = k.1.names; pipeline = k.0 }, k.1.reads),
)
