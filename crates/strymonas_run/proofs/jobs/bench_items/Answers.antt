use Rattle.std.proofs.Common.{sym, subst, ◌∙◌}
use Rattle.bench_pipeline.specs.Texts.{bench_text}
use Rattle.job_files.specs.Sources.{source_of}
use Rattle.job_files.specs.declared.source.Source.{Source}
use Rattle.job_steps.specs.Pipelines.{IsPipelineFile}
use Rattle.list_denotation.specs.Pipelines.{pipeline_of}
use Rattle.strymonas_run.proofs.BenchTexts.{read_file, unread_end}
use Rattle.strymonas_run.proofs.jobs.bench_items.Goals as goal

pub bench-requires-clause-program : goal.bench-requires-clause-program
bench-requires-clause-program g c =
    let is_file = read_file c.bench_text_is_its_pipeline.ensures c.as_bytes.result.now (c.as_bytes.ensures.value ∙ c.bench_text.ensures) (source_of c.in-Ok.source) c.in-Ok.ensures in
    subst (λ (s : Source). IsPipelineFile bench_text (pipeline_of s.program)) (sym c.deref.ensures) is_file

pub returns-in-Err-clause-does : goal.returns-in-Err-clause-does
returns-in-Err-clause-does g c =
    unread_end c.bench_text_is_its_pipeline.ensures c.as_bytes.result.now (c.as_bytes.ensures.value ∙ c.bench_text.ensures) c.files_have_one_refusal.ensures c.args.seed c.args.count c.in-Err.status c.in-Err.ensures _ _
