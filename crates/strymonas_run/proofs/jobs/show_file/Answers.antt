use Rattle.std.proofs.Common.{Option, Ok, subst}
use Rattle.command_words.specs.Commands.{texts_of}
use Rattle.job_files.specs.Sources.{named_of, source_of}
use Rattle.job_files.specs.declared.source.Source.{Source}
use Rattle.job_steps.specs.Answers.{AnswersSteps}
use Rattle.job_steps.specs.Inputs.{BindsInputs}
use Rattle.job_steps.specs.Pipelines.{LoadsPipeline}
use Rattle.job_steps.specs.Steps.{Is, Then}
use Rattle.strm_io.specs.Store.{Store}
use Rattle.job_work.specs.Ways.{work_of}
use Rattle.strymonas_run.proofs.JobAnswers.{goes_on}
use Rattle.strymonas_run.proofs.jobs.show_file.Goals as goal

pub returns-in-Ok-clause-answers : goal.returns-in-Ok-clause-answers
returns-in-Ok-clause-answers g c =
    let of_source = subst (λ (s : Source). AnswersSteps (Then (BindsInputs (g.F.Files.told c.loaded_pipeline.new.files).holds (texts_of c.args.words.now) (named_of s).names s.program.inputs) (λ inputs. Is (Ok (work_of c.args.way (named_of s).pipeline inputs)))) (g.O.Sink.written c.args.out.now) (g.O.Sink.written c.show_source.new.out) c.show_source.result) c.deref.ensures c.show_source.ensures.answers in
    let answers = subst (λ (store : Option Store). AnswersSteps (Then (BindsInputs store (texts_of c.args.words.now) (source_of c.in-Ok.source).names (source_of c.in-Ok.source).pipeline.inputs) (λ inputs. Is (Ok (work_of c.args.way (source_of c.in-Ok.source).pipeline inputs)))) (g.O.Sink.written c.args.out.now) (g.O.Sink.written c.show_source.new.out) c.show_source.result) c.in-Ok.ensures.leaves.holds of_source in
    goes_on source_of (LoadsPipeline (g.F.Files.told c.args.files.now).holds c.args.name.now) (λ s. Then (BindsInputs (g.F.Files.told c.args.files.now).holds (texts_of c.args.words.now) s.names s.pipeline.inputs) (λ inputs. Is (Ok (work_of c.args.way s.pipeline inputs)))) (g.O.Sink.written c.args.out.now) (g.O.Sink.written c.show_source.new.out) c.in-Ok.source c.show_source.result c.in-Ok.ensures.reads answers
