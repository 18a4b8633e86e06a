use Rattle.std.proofs.Common.{◌≡◌, drop}
use Rattle.command_words.specs.Commands.{texts_of}
use Rattle.job_steps.specs.Bindings.{bound_value}
use Rattle.job_inputs.proofs.binding.bound_value.Given as goal

-- the words from here on bind the name to what all bind it to
abbrev pub invariant-loop-word : goal.invariant-loop-word
invariant-loop-word l = bound_value l.name (texts_of (drop l.word-index l.words)) ≡ bound_value l.name (texts_of l.words)
