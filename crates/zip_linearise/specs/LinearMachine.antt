-- The machine of a core term: one Lin with its rows.
use Rattle.stateful_core.specs.CoreTerms.{CoreTerm, Lin, Tr, Nest, Zip}
use Rattle.stage_machines.specs.MachineParts.{MachineParts, machine_from}
use Rattle.stage_machines.specs.StageMachine.{stage_machine}
use Rattle.zip_linearise.specs.NestMachine.{nest_machine}
use Rattle.zip_linearise.specs.ZipMachine.{zip_machine}

-- a Lin is its own machine
abbrev pub linear_machine : CoreTerm → MachineParts
linear_machine (Lin scope init guard acts item) = machine_from scope init guard acts item
linear_machine (Tr scope of init guard acts item) =
    stage_machine 0 (linear_machine of) (machine_from scope init guard acts item)
linear_machine (Nest of inner) = nest_machine (linear_machine of) (linear_machine inner)
linear_machine (Zip left right) = zip_machine (linear_machine left) (linear_machine right)
