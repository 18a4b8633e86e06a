use Rattle.std.proofs.Common.{◌≡◌, ◌≤◌, List, [], Result, drop}
use Rattle.command_words.specs.Commands.{texts_of}
use Rattle.list_denotation.specs.declared.input.Input.{Input}
use Rattle.status_lines.specs.declared.statuses.Status.{Status}
use Rattle.job_steps.specs.Inputs.{TakesInputs}
use Rattle.job_inputs.specs.Givens.{placed_givens}
use Rattle.job_inputs.proofs.inputs.take_placed.Given as goal

-- what comes of the inputs from here on, behind those that are taken, comes of all
abbrev pub invariant-loop-i : goal.invariant-loop-i
invariant-loop-i g l = record {
  left : (end : Result (List Input) Status) → TakesInputs (g.F.Files.told l.fn.files).holds l.taken (placed_givens l.i (texts_of (drop l.i l.values)) (drop l.i l.kinds)) end
      → TakesInputs (g.F.Files.told l.fn.files).holds [] (placed_givens 0 (texts_of l.values) l.kinds) end;
  holds : (g.F.Files.told l.files).holds ≡ (g.F.Files.told l.fn.files).holds;
  misses : (g.F.Files.told l.fn.files).misses ≤ (g.F.Files.told l.files).misses;
  faults : (g.F.Files.told l.fn.files).faults ≤ (g.F.Files.told l.files).faults;
}
