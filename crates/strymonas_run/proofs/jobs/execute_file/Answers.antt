use Rattle.std.proofs.Common.{Option, Ok, subst}
use Rattle.command_words.specs.Commands.{texts_of}
use Rattle.job_files.specs.Sources.{boxed_routine}
use Rattle.job_steps.specs.Answers.{AnswersSteps}
use Rattle.job_steps.specs.CTexts.{LoadsC}
use Rattle.job_steps.specs.Inputs.{PlacesInputs}
use Rattle.job_steps.specs.Steps.{Is, Then}
use Rattle.job_steps.specs.Works.{Executing}
use Rattle.loop_ir.specs.Routines.{routine_of}
use Rattle.loop_ir.specs.declared.program.Prog.{Prog}
use Rattle.strm_io.specs.Store.{Store}
use Rattle.strymonas_run.proofs.JobAnswers.{goes_on}
use Rattle.strymonas_run.proofs.jobs.execute_file.Goals as goal

pub returns-in-Ok-clause-answers : goal.returns-in-Ok-clause-answers
returns-in-Ok-clause-answers g c =
    let of_program = subst (λ (q : Prog). AnswersSteps (Then (PlacesInputs (g.F.Files.told c.loaded_c.new.files).holds (texts_of c.args.values.now) q.params) (λ inputs. Is (Ok (Executing (routine_of q) inputs c.args.turns)))) (g.O.Sink.written c.args.out.now) (g.O.Sink.written c.execute_on.new.out) c.execute_on.result) c.deref.ensures c.execute_on.ensures.answers in
    let answers = subst (λ (store : Option Store). AnswersSteps (Then (PlacesInputs store (texts_of c.args.values.now) (boxed_routine c.in-Ok.program).params) (λ inputs. Is (Ok (Executing (boxed_routine c.in-Ok.program) inputs c.args.turns)))) (g.O.Sink.written c.args.out.now) (g.O.Sink.written c.execute_on.new.out) c.execute_on.result) c.in-Ok.ensures.leaves.holds of_program in
    goes_on boxed_routine (LoadsC (g.F.Files.told c.args.files.now).holds c.args.name.now) (λ q. Then (PlacesInputs (g.F.Files.told c.args.files.now).holds (texts_of c.args.values.now) q.params) (λ inputs. Is (Ok (Executing q inputs c.args.turns)))) (g.O.Sink.written c.args.out.now) (g.O.Sink.written c.execute_on.new.out) c.in-Ok.program c.execute_on.result c.in-Ok.ensures.reads answers
