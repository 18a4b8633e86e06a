use Rattle.std.proofs.Common.{List, Ok}
use Rattle.command_words.specs.Commands.{texts_of}
use Rattle.job_steps.specs.Inputs.{PlacesInputs}
use Rattle.job_steps.specs.Steps.{Is}
use Rattle.job_steps.specs.Works.{Executing}
use Rattle.list_denotation.specs.declared.input.Input.{Input}
use Rattle.loop_ir.specs.Routines.{routine_of}
use Rattle.strymonas_run.proofs.JobAnswers.{goes_on, worked}
use Rattle.strymonas_run.proofs.jobs.execute_on.Goals as goal

pub returns-in-Ok-clause-answers : goal.returns-in-Ok-clause-answers
returns-in-Ok-clause-answers g c =
    goes_on (λ (is : List Input). is) (PlacesInputs (g.F.Files.told c.args.files.now).holds (texts_of c.args.values.now) c.args.program.now.params) (λ inputs. Is (Ok (Executing (routine_of c.args.program.now) inputs c.args.turns))) (g.O.Sink.written c.args.out.now) (g.O.Sink.written c.execute.new.out) c.in-Ok.inputs c.execute.result c.in-Ok.ensures.inputs
    (worked (Executing (routine_of c.args.program.now) c.in-Ok.inputs c.args.turns) _ _ _ _ c.execute.result c.execute.ensures.does)
