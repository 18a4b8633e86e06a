use Rattle.std.proofs.Common.{◌≡◌, ◌≤◌, List, [], Result, drop}
use Rattle.command_words.specs.Commands.{texts_of}
use Rattle.list_denotation.specs.declared.input.Input.{Input}
use Rattle.status_lines.specs.declared.statuses.Status.{Status}
use Rattle.job_steps.specs.Inputs.{TakesInputs}
use Rattle.job_inputs.specs.Givens.{bound_givens}
use Rattle.job_inputs.specs.Names.{names_of}
use Rattle.job_inputs.proofs.inputs.take_bound.Given as goal

-- what comes of the inputs from here on, behind those that are taken, comes of all
abbrev pub invariant-loop-i : goal.invariant-loop-i
invariant-loop-i g l = record {
  left : (end : Result (List Input) Status) → TakesInputs (g.F.Files.told l.fn.files).holds l.taken (bound_givens (texts_of l.words) (names_of (drop l.i l.names)) (drop l.i l.kinds)) end
      → TakesInputs (g.F.Files.told l.fn.files).holds [] (bound_givens (texts_of l.words) (names_of l.names) l.kinds) end;
  holds : (g.F.Files.told l.files).holds ≡ (g.F.Files.told l.fn.files).holds;
  misses : (g.F.Files.told l.fn.files).misses ≤ (g.F.Files.told l.files).misses;
  faults : (g.F.Files.told l.fn.files).faults ≤ (g.F.Files.told l.files).faults;
}
