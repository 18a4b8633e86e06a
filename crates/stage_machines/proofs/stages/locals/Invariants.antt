use Rattle.std.proofs.Common.{◌≡◌, ◌+◌, drop}
use Rattle.stateful_core.specs.CoreCopies.{actions_of}
use Rattle.stateful_core.specs.CoreShapes.{actions_locals}
use Rattle.stage_machines.proofs.stages.locals.Given as goal

-- the count so far, with the local words of the acts left, is the count of all
abbrev pub invariant-loop-act : goal.invariant-loop-act
invariant-loop-act l = l.count + actions_locals (actions_of (drop l.act-index l.acts)) ≡ actions_locals (actions_of l.acts)
