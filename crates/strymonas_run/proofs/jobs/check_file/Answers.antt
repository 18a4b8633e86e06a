use Rattle.std.proofs.Common.{Ok, subst}
use Rattle.job_files.specs.Sources.{source_of}
use Rattle.job_files.specs.declared.source.Source.{Source}
use Rattle.job_steps.specs.Pipelines.{LoadsPipeline}
use Rattle.job_steps.specs.Steps.{Is}
use Rattle.job_steps.specs.Works.{Counting, Ends}
use Rattle.list_denotation.specs.Pipelines.{pipeline_of}
use Rattle.job_work.specs.Working.{Does}
use Rattle.strymonas_run.proofs.JobAnswers.{goes_on, worked}
use Rattle.strymonas_run.proofs.jobs.check_file.Goals as goal

pub returns-in-Ok-clause-answers : goal.returns-in-Ok-clause-answers
returns-in-Ok-clause-answers g c =
    let does = subst (λ (s : Source). Does (Ends (Counting (pipeline_of s.program))) (g.O.Sink.written c.args.out.now) (g.O.Sink.written c.count.new.out) (g.O.Sink.faults c.args.out.now) (g.O.Sink.faults c.count.new.out) c.count.result) c.deref.ensures c.count.ensures.does in
    goes_on source_of (LoadsPipeline (g.F.Files.told c.args.files.now).holds c.args.name.now) (λ s. Is (Ok (Counting s.pipeline))) (g.O.Sink.written c.args.out.now) (g.O.Sink.written c.count.new.out) c.in-Ok.source c.count.result c.in-Ok.ensures.reads
    (worked (Counting (source_of c.in-Ok.source).pipeline) _ _ _ _ c.count.result does)
