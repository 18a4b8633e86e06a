use Rattle.std.proofs.Common.{ℕ, List, subst}
use Rattle.job_files.specs.Bytes.{bytes_of}
use Rattle.job_files.specs.Sources.{source_of}
use Rattle.job_steps.proofs.TakenSteps.{first_gives}
use Rattle.job_steps.specs.Loads.{Loads}
use Rattle.job_steps.specs.Pipelines.{ReadsPipeline}
use Rattle.job_steps.specs.Steps.{ComesOf}
use Rattle.pipe_limits.specs.declared.TheConstants.{MOST_BYTES}
use Rattle.job_files.proofs.pipelines.loaded_pipeline.Goals as goal

pub returns-clause-reads : goal.returns-clause-reads
returns-clause-reads g c =
    let reads = subst (λ (src : List ℕ). ComesOf source_of (ReadsPipeline src) c.read_pipeline.result) c.as_slice.ensures.value c.read_pipeline.ensures in
    first_gives bytes_of source_of (Loads (g.F.Files.told c.args.files.now).holds c.args.name.now MOST_BYTES) ReadsPipeline c.in_ok-src.src c.read_pipeline.result c.in_ok-src.ensures.loads reads
