-- What is promised of the definitions. Each statement has one name, which its law and those who stand on it cite.
use Rattle.std.specs.Prelude.{◌≡◌, ℕ, List, length, IsTrue}
use Rattle.list_denotation.specs.declared.input.Input.{Input}
use Rattle.stateful_core.specs.CoreRows.{core_rows}
use Rattle.stateful_core.specs.CoreShapes.{core_scope}
use Rattle.stateful_core.specs.CoreTerms.{CoreTerm}
use Rattle.stateful_core.specs.CoreWork.{core_work}
use Rattle.denotation_laws.specs.FarRows.{FarRows}
use Rattle.stateful_core.specs.WellFormed.{is_sound_core}
use Rattle.stage_machines.specs.MachineParts.{machine_core}
use Rattle.zip_linearise.specs.LinearMachine.{linear_machine}

-- The machine of a sound term, as a definition: at every bound n, what it gives in n steps is as far
-- as the rows of the term, and these are as far as what it gives in as many steps as the term's work.
abbrev pub MachinesGoNoFurtherThanTerms : Type 0
MachinesGoNoFurtherThanTerms =
    (c : CoreTerm) (env : List ℕ) (inputs : List Input) (n : ℕ)
    → IsTrue (is_sound_core c) → length env ≡ core_scope c
    → FarRows (core_rows (machine_core (linear_machine c)) env inputs n)
    (core_rows c env inputs n)

abbrev pub MachinesGoAsFarAsTerms : Type 0
MachinesGoAsFarAsTerms =
    (c : CoreTerm) (env : List ℕ) (inputs : List Input) (n : ℕ)
    → IsTrue (is_sound_core c) → length env ≡ core_scope c
    → FarRows (core_rows c env inputs n)
    (core_rows (machine_core (linear_machine c)) env inputs (core_work c env inputs n))
