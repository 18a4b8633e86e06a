use Rattle.std.proofs.Common.{◌≡◌, [], drop, take}
use Rattle.command_words.specs.Commands.{texts_of}
use Rattle.job_steps.specs.Bindings.{words_fault}
use Rattle.job_inputs.specs.Names.{names_of}
use Rattle.job_inputs.proofs.binding.check_words.Given as goal

-- the words from here on, behind those before, have the fault of all
abbrev pub invariant-loop-i : goal.invariant-loop-i
invariant-loop-i l =
    words_fault (names_of l.names) (texts_of (take l.i l.words)) (texts_of (drop l.i l.words)) ≡ words_fault (names_of l.names) [] (texts_of l.words)
