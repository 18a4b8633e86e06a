use Rattle.std.proofs.Common.{◌≡◌, drop}
use Rattle.job_steps.specs.Bindings.{is_among}
use Rattle.job_inputs.specs.Names.{names_of}
use Rattle.job_inputs.proofs.binding.is_among.Given as goal

-- the name is among those from here on where it is among all
abbrev pub invariant-loop-decl : goal.invariant-loop-decl
invariant-loop-decl l = is_among l.name (names_of (drop l.decl-index l.names)) ≡ is_among l.name (names_of l.names)
