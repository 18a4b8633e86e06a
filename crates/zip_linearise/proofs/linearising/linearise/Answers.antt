use Rattle.std.proofs.Common.{sym, ap, ◌∙◌, subst}
use Rattle.stateful_core.specs.CoreCopies.{core_term_of}
use Rattle.stage_machines.specs.MachineCopies.{machine_of}
use Rattle.stage_machines.specs.MachineParts.{MachineParts, machine_core}
use Rattle.zip_linearise.specs.MachinePromise.{IsMachineOf}
use Rattle.zip_linearise.proofs.LinearMachines.{machine_kept}
use Rattle.zip_linearise.proofs.linearising.linearise.Goals as goal

pub returns : goal.returns
returns c =
    let t = core_term_of c.args.c.now in
    subst (λ (m : MachineParts). IsMachineOf t (machine_core m)) (sym (ap machine_of c.into_inner.ensures ∙ c.in_ok-machine_at.ensures))
    (machine_kept c.laws_below.ensures t c.requires)
