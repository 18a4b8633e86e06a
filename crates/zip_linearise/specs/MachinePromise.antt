-- What is promised of the machine of a core term.
use Rattle.std.specs.Prelude.{◌≡◌, ℕ, ◌≤◌, List, length, IsTrue}
use Rattle.list_denotation.specs.declared.input.Input.{Input}
use Rattle.list_denotation.specs.InputNames.{InputNames}
use Rattle.denotation_laws.specs.FarRows.{FarRows}
use Rattle.stateful_core.specs.CoreTerms.{CoreTerm}
use Rattle.stateful_core.specs.CoreRows.{core_rows}
use Rattle.stateful_core.specs.CoreWork.{core_work}
use Rattle.stateful_core.specs.CoreLeaves.{core_names_inputs, core_has_words}
use Rattle.stateful_core.specs.CoreShapes.{core_scope, core_width}
use Rattle.stateful_core.specs.MostWords.{most_words}
use Rattle.stateful_core.specs.WellFormed.{is_well_formed}

-- m, a Lin with the parts of a machine, stands for the term c: one step of the machine is one turn of m
pub record IsMachineOf (c m : CoreTerm) : Type 0 where
  pub well_formed : IsTrue (is_well_formed m)
  pub scope : core_scope m ≡ core_scope c
  pub width : core_width m ≡ core_width c
  -- it names no input that the term doesn't name in the same way, and its numbers are words where the term's are
  pub names : (may : InputNames) → IsTrue (core_names_inputs may c) → IsTrue (core_names_inputs may m)
  pub numbers : IsTrue (core_has_words c) → IsTrue (core_has_words m)
  pub words : (d : ℕ) → most_words m d ≤ most_words c d
  -- what it gives in n steps is as far as the rows of the term at n, and these as what it gives in as many steps as the
  -- term's work at n
  pub no_further : (env : List ℕ) (inputs : List Input) (n : ℕ) → length env ≡ core_scope c
      → FarRows (core_rows m env inputs n) (core_rows c env inputs n)
  pub as_far : (env : List ℕ) (inputs : List Input) (n : ℕ) → length env ≡ core_scope c
      → FarRows (core_rows c env inputs n) (core_rows m env inputs (core_work c env inputs n))
