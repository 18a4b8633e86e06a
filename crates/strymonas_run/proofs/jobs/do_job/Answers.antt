use Rattle.std.proofs.Common.{ℕ, List, Some, Ok, sym, subst}
use Rattle.command_words.specs.Commands.{file_of, texts_of}
use Rattle.command_words.specs.declared.jobs.Job.{Job}
use Rattle.job_steps.specs.Answers.{AnswersSteps}
use Rattle.job_steps.specs.CTexts.{LoadsC}
use Rattle.job_steps.specs.Inputs.{BindsInputs, PlacesInputs}
use Rattle.job_steps.specs.Jobs.{PreparesJob}
use Rattle.job_steps.specs.Pipelines.{LoadsPipeline}
use Rattle.job_steps.specs.Steps.{Is, Then}
use Rattle.job_steps.specs.Works.{Benching, Counting, Compiling, Running, Executing, Listing}
use Rattle.strymonas_run.proofs.JobAnswers.{worked}
use Rattle.strymonas_run.proofs.jobs.do_job.Goals as goal

pub returns-in-Check-clause-answers : goal.returns-in-Check-clause-answers
returns-in-Check-clause-answers g c =
    let named = subst (λ (name : List ℕ). AnswersSteps (Then (LoadsPipeline (g.F.Files.told c.args.files.now).holds name) (λ s. Is (Ok (Counting s.pipeline)))) (g.O.Sink.written c.args.out.now) (g.O.Sink.written c.check_file.new.out) c.check_file.result) c.file_in-name.ensures c.check_file.ensures.answers in
    subst (λ (j : Job). AnswersSteps (PreparesJob (g.F.Files.told c.args.files.now).holds (texts_of c.args.words.now) (Some j)) (g.O.Sink.written c.args.out.now) (g.O.Sink.written c.check_file.new.out) c.check_file.result) (sym c.in-Check.is) named

pub returns-in-Compile-clause-answers : goal.returns-in-Compile-clause-answers
returns-in-Compile-clause-answers g c =
    let named = subst (λ (name : List ℕ). AnswersSteps (Then (LoadsPipeline (g.F.Files.told c.args.files.now).holds name) (λ s. Is (Ok (Compiling s.pipeline)))) (g.O.Sink.written c.args.out.now) (g.O.Sink.written c.compile_file.new.out) c.compile_file.result) c.file_in-name.ensures c.compile_file.ensures.answers in
    subst (λ (j : Job). AnswersSteps (PreparesJob (g.F.Files.told c.args.files.now).holds (texts_of c.args.words.now) (Some j)) (g.O.Sink.written c.args.out.now) (g.O.Sink.written c.compile_file.new.out) c.compile_file.result) (sym c.in-Compile.is) named

pub returns-in-Run-clause-answers : goal.returns-in-Run-clause-answers
returns-in-Run-clause-answers g c =
    let named = subst (λ (name : List ℕ). AnswersSteps (Then (LoadsPipeline (g.F.Files.told c.args.files.now).holds name) (λ s. Then (BindsInputs (g.F.Files.told c.args.files.now).holds (texts_of c.behind.result.now) s.names s.pipeline.inputs) (λ inputs. Is (Ok (Running s.pipeline inputs c.in-Run.turns))))) (g.O.Sink.written c.args.out.now) (g.O.Sink.written c.show_file.new.out) c.show_file.result) c.file_in-name.ensures c.show_file.ensures.answers in
    let behind = subst (λ (words : List (List ℕ)). AnswersSteps (Then (LoadsPipeline (g.F.Files.told c.args.files.now).holds (file_of (texts_of c.args.words.now))) (λ s. Then (BindsInputs (g.F.Files.told c.args.files.now).holds words s.names s.pipeline.inputs) (λ inputs. Is (Ok (Running s.pipeline inputs c.in-Run.turns))))) (g.O.Sink.written c.args.out.now) (g.O.Sink.written c.show_file.new.out) c.show_file.result) c.behind.ensures named in
    subst (λ (j : Job). AnswersSteps (PreparesJob (g.F.Files.told c.args.files.now).holds (texts_of c.args.words.now) (Some j)) (g.O.Sink.written c.args.out.now) (g.O.Sink.written c.show_file.new.out) c.show_file.result) (sym c.in-Run.is) behind

pub returns-in-Exec-clause-answers : goal.returns-in-Exec-clause-answers
returns-in-Exec-clause-answers g c =
    let named = subst (λ (name : List ℕ). AnswersSteps (Then (LoadsC (g.F.Files.told c.args.files.now).holds name) (λ q. Then (PlacesInputs (g.F.Files.told c.args.files.now).holds (texts_of c.behind-in-Exec.result.now) q.params) (λ inputs. Is (Ok (Executing q inputs c.in-Exec.turns))))) (g.O.Sink.written c.args.out.now) (g.O.Sink.written c.execute_file.new.out) c.execute_file.result) c.file_in-name.ensures c.execute_file.ensures.answers in
    let behind = subst (λ (words : List (List ℕ)). AnswersSteps (Then (LoadsC (g.F.Files.told c.args.files.now).holds (file_of (texts_of c.args.words.now))) (λ q. Then (PlacesInputs (g.F.Files.told c.args.files.now).holds words q.params) (λ inputs. Is (Ok (Executing q inputs c.in-Exec.turns))))) (g.O.Sink.written c.args.out.now) (g.O.Sink.written c.execute_file.new.out) c.execute_file.result) c.behind-in-Exec.ensures named in
    subst (λ (j : Job). AnswersSteps (PreparesJob (g.F.Files.told c.args.files.now).holds (texts_of c.args.words.now) (Some j)) (g.O.Sink.written c.args.out.now) (g.O.Sink.written c.execute_file.new.out) c.execute_file.result) (sym c.in-Exec.is) behind

pub returns-in-Model-clause-answers : goal.returns-in-Model-clause-answers
returns-in-Model-clause-answers g c =
    let named = subst (λ (name : List ℕ). AnswersSteps (Then (LoadsPipeline (g.F.Files.told c.args.files.now).holds name) (λ s. Then (BindsInputs (g.F.Files.told c.args.files.now).holds (texts_of c.behind-in-Model.result.now) s.names s.pipeline.inputs) (λ inputs. Is (Ok (Listing s.pipeline inputs c.in-Model.pulls))))) (g.O.Sink.written c.args.out.now) (g.O.Sink.written c.show_file-in-Model.new.out) c.show_file-in-Model.result) c.file_in-name.ensures c.show_file-in-Model.ensures.answers in
    let behind = subst (λ (words : List (List ℕ)). AnswersSteps (Then (LoadsPipeline (g.F.Files.told c.args.files.now).holds (file_of (texts_of c.args.words.now))) (λ s. Then (BindsInputs (g.F.Files.told c.args.files.now).holds words s.names s.pipeline.inputs) (λ inputs. Is (Ok (Listing s.pipeline inputs c.in-Model.pulls))))) (g.O.Sink.written c.args.out.now) (g.O.Sink.written c.show_file-in-Model.new.out) c.show_file-in-Model.result) c.behind-in-Model.ensures named in
    subst (λ (j : Job). AnswersSteps (PreparesJob (g.F.Files.told c.args.files.now).holds (texts_of c.args.words.now) (Some j)) (g.O.Sink.written c.args.out.now) (g.O.Sink.written c.show_file-in-Model.new.out) c.show_file-in-Model.result) (sym c.in-Model.is) behind

pub returns-in-Bench-clause-answers : goal.returns-in-Bench-clause-answers
returns-in-Bench-clause-answers g c =
    let worked_on = worked (Benching c.in-Bench.seed c.in-Bench.count) (g.O.Sink.written c.args.out.now) (g.O.Sink.written c.bench_items.new.out) _ _ c.bench_items.result c.bench_items.ensures.does in
    subst (λ (j : Job). AnswersSteps (PreparesJob (g.F.Files.told c.args.files.now).holds (texts_of c.args.words.now) (Some j)) (g.O.Sink.written c.args.out.now) (g.O.Sink.written c.bench_items.new.out) c.bench_items.result) (sym c.in-Bench.is) worked_on
