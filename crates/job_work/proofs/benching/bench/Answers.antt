use Rattle.bench_pipeline.specs.Pipelines.{bench_pipeline}
use Rattle.bench_pipeline.specs.Texts.{bench_text}
use Rattle.list_denotation.specs.Pipelines.{pipeline_of}
use Rattle.job_work.proofs.benching.bench.Goals as goal

pub bench_on-requires-clause-program : goal.bench_on-requires-clause-program
bench_on-requires-clause-program g c =
    c.files_are_one_pipeline.ensures bench_text (pipeline_of c.args.program.now) bench_pipeline c.requires.program c.bench_text_is_its_pipeline.ensures
