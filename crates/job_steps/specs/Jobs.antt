-- The steps of each command, up to its work.
use Rattle.std.specs.Prelude.{ℕ, List, drop, Option, Some, None, Result, Ok, Err}
use Rattle.command_words.specs.Commands.{job_of, file_of}
use Rattle.command_words.specs.declared.jobs.Job.{Job}
use Rattle.command_words.specs.declared.jobs.Job.TheVariants.{Check, Compile, Run, Exec, Model, Bench}
use Rattle.list_denotation.specs.declared.input.Input.{Input}
use Rattle.list_denotation.specs.Terms.{Pipeline}
use Rattle.loop_ir.specs.Statements.{Routine}
use Rattle.strm_io.specs.Store.{Store}
use Rattle.status_lines.specs.declared.statuses.Status.{Status}
use Rattle.status_lines.specs.declared.statuses.Status.TheVariants.{Words}
use Rattle.job_steps.specs.Steps.{Is, Then}
use Rattle.job_steps.specs.Pipelines.{LoadsPipeline, Source}
use Rattle.job_steps.specs.CTexts.{LoadsC}
use Rattle.job_steps.specs.Inputs.{BindsInputs, PlacesInputs}
use Rattle.job_steps.specs.Works.{Work, Counting, Compiling, Running, Executing, Listing, Benching}

-- work on a pipeline that was loaded: its inputs are taken, as the words bind them
abbrev pub BindsWork : Option Store → List (List ℕ) → (Pipeline → List Input → Work) → Source → Result Work Status → Type 0
BindsWork store words of s =
    Then (BindsInputs store words s.names s.pipeline.inputs) (λ inputs. Is (Ok (of s.pipeline inputs)))

-- the pipeline is loaded before
abbrev pub PreparesPipeline : Option Store → List ℕ → List (List ℕ) → (Pipeline → List Input → Work) → Result Work Status → Type 0
PreparesPipeline store file words of = Then (LoadsPipeline store file) (BindsWork store words of)

-- the same with the program of a C text, and values for its parameters
abbrev pub PlacesWork : Option Store → List (List ℕ) → ℕ → Routine → Result Work Status → Type 0
PlacesWork store values turns q = Then (PlacesInputs store values q.params) (λ inputs. Is (Ok (Executing q inputs turns)))

abbrev pub PreparesC : Option Store → List ℕ → List (List ℕ) → ℕ → Result Work Status → Type 0
PreparesC store file values turns = Then (LoadsC store file) (PlacesWork store values turns)

-- the steps of a job, by the words
abbrev pub PreparesJob : Option Store → List (List ℕ) → Option Job → Result Work Status → Type 0
PreparesJob store words None = Is (Err Words)
PreparesJob store words (Some Check) = Then (LoadsPipeline store (file_of words)) (λ s. Is (Ok (Counting s.pipeline)))
PreparesJob store words (Some Compile) = Then (LoadsPipeline store (file_of words)) (λ s. Is (Ok (Compiling s.pipeline)))
PreparesJob store words (Some (Run turns rest)) = PreparesPipeline store (file_of words) (drop rest words) (λ p inputs. Running p inputs turns)
PreparesJob store words (Some (Exec turns rest)) = PreparesC store (file_of words) (drop rest words) turns
PreparesJob store words (Some (Model pulls rest)) = PreparesPipeline store (file_of words) (drop rest words) (λ p inputs. Listing p inputs pulls)
PreparesJob store words (Some (Bench seed count)) = Is (Ok (Benching seed count))

-- what comes of the words: work, or the status of the first step that fails
abbrev pub Prepares : Option Store → List (List ℕ) → Result Work Status → Type 0
Prepares store words = PreparesJob store words (job_of words)
