use Rattle.std.proofs.Common.{◌≡◌, drop}
use Rattle.command_words.specs.Commands.{texts_of}
use Rattle.job_inputs.specs.Faults.{absent_fault}
use Rattle.job_inputs.specs.Names.{names_of}
use Rattle.job_inputs.proofs.binding.check_names.Given as goal

-- the inputs from here on have the fault of all
abbrev pub invariant-loop-decl : goal.invariant-loop-decl
invariant-loop-decl l = absent_fault (texts_of l.words) (names_of (drop l.decl-index l.names)) ≡ absent_fault (texts_of l.words) (names_of l.names)
