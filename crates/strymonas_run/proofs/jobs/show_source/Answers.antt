use Rattle.std.proofs.Common.{◌≡◌, ◌∙◌, ℕ, List, Ok, Err, ap, subst, refl}
use Rattle.command_words.specs.Commands.{texts_of}
use Rattle.job_inputs.specs.Names as code
use Rattle.job_steps.specs.Inputs.{BindsInputs}
use Rattle.job_steps.specs.Pipelines.{names_of}
use Rattle.job_steps.specs.Steps.{ComesOf, Is}
use Rattle.list_denotation.specs.declared.input.Input.{Input}
use Rattle.list_denotation.specs.Pipelines.{pipeline_of}
use Rattle.pipe_tree.specs.TreeCopies.{text_of}
use Rattle.pipe_tree.specs.declared.tree.Tree.{Tree}
use Rattle.job_work.specs.Ways.{work_of}
use Rattle.strymonas_run.proofs.InputNames.{same_names}
use Rattle.strymonas_run.proofs.JobAnswers.{stopped, goes_on, worked}
use Rattle.strymonas_run.proofs.jobs.show_source.Goals as goal

pub returns-in-Ok-clause-answers : goal.returns-in-Ok-clause-answers
returns-in-Ok-clause-answers g c =
    let named : code.names_of c.as_slice-names.result.now ≡ names_of (text_of c.args.source.now.tree.value) =
    ap code.names_of (c.as_slice-names.ensures ∙ ap (λ (t : Tree). t.inputs) c.deref.ensures) ∙ same_names c.args.source.now.tree.value.inputs in
    let first = subst (λ (names : List (List ℕ)). BindsInputs (g.F.Files.told c.args.files.now).holds (texts_of c.args.words.now) names c.args.source.now.program.inputs (Ok c.in-Ok.inputs)) named c.in-Ok.ensures.inputs in
    goes_on (λ (is : List Input). is) (BindsInputs (g.F.Files.told c.args.files.now).holds (texts_of c.args.words.now) (names_of (text_of c.args.source.now.tree.value)) c.args.source.now.program.inputs) (λ inputs. Is (Ok (work_of c.args.way (pipeline_of c.args.source.now.program) inputs))) (g.O.Sink.written c.args.out.now) (g.O.Sink.written c.show.new.out) c.in-Ok.inputs c.show.result first
    (worked (work_of c.args.way (pipeline_of c.args.source.now.program) c.in-Ok.inputs) _ _ _ _ c.show.result c.show.ensures.does)

pub returns-in-Err-clause-answers : goal.returns-in-Err-clause-answers
returns-in-Err-clause-answers g c =
    let named : code.names_of c.as_slice-names.result.now ≡ names_of (text_of c.args.source.now.tree.value) =
    ap code.names_of (c.as_slice-names.ensures ∙ ap (λ (t : Tree). t.inputs) c.deref.ensures) ∙ same_names c.args.source.now.tree.value.inputs in
    let first = subst (λ (names : List (List ℕ)). ComesOf (λ (is : List Input). is) (BindsInputs (g.F.Files.told c.args.files.now).holds (texts_of c.args.words.now) names c.args.source.now.program.inputs) (Err c.in-Err.status)) named c.in-Err.ensures.inputs in
    stopped (λ (is : List Input). is) (BindsInputs (g.F.Files.told c.args.files.now).holds (texts_of c.args.words.now) (names_of (text_of c.args.source.now.tree.value)) c.args.source.now.program.inputs) (λ inputs. Is (Ok (work_of c.args.way (pipeline_of c.args.source.now.program) inputs))) (g.O.Sink.written c.args.out.now) (g.O.Sink.written c.args.out.now) _ _ c.in-Err.status first c.in-Err.ensures.leaves.cause refl
