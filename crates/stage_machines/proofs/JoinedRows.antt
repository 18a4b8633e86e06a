-- The rows of a stage over a machine and over another stage, where both are joined.
use Rattle.std.proofs.Common.{◌≡◌, ℕ, List, [], length, refl, ◌∙◌}
use Rattle.list_denotation.specs.declared.input.Input.{Input}
use Rattle.list_denotation.specs.Rows.{Rows}
use Rattle.stateful_core.specs.CoreRows.{core_rows}
use Rattle.stateful_core.specs.CoreShapes.{core_width}
use Rattle.stateful_core.specs.CoreTerms.{CoreTerm}
use Rattle.stateful_core.specs.Turns.{Turn, stage_rows}
use Rattle.machine_turns.specs.AlikeTurns.{AlikeTurns, SameTruth}
use Rattle.machine_turns.specs.MachineRuns.{Runs}
use Rattle.machine_turns.specs.StageTurns.{join_guard, join_takes, join_step}
use Rattle.machine_turns.proofs.AlikeTurns.{alike_rows, alike_runs, alike_stages}
use Rattle.stage_machines.specs.JoinedStates.{BothStates}
use Rattle.stage_machines.specs.Laws.{Laws}
use Rattle.stage_machines.specs.MachineParts.{MachineParts, machine_core, stage_core, first_state, machine_guard, machine_turn}
use Rattle.stage_machines.specs.StageMachine.{stage_machine, IsStageOver}
use Rattle.stage_machines.proofs.JoinedTurns.{states_joined, guards_of_both, turns_of_both}

module _ (laws : Laws) (inputs : List Input) (env : List ℕ) (w : ℕ) (m stage : MachineParts) (over : IsStageOver w m stage) (scoped : length env ≡ m.scope) where
  abbrev joined : MachineParts
  joined = stage_machine w m stage

  abbrev R : List ℕ → List ℕ × List ℕ → Type 0
  R = BothStates (length m.init) (length stage.init)

  abbrev both_guard : List ℕ × List ℕ → ℕ
  both_guard = join_guard (machine_guard m env inputs) (machine_guard stage env inputs)

  abbrev both_takes : List ℕ × List ℕ → List ℕ → Turn (List ℕ × List ℕ)
  both_takes = join_takes (machine_turn m env inputs) (machine_turn stage env inputs)

  guards : (x : List ℕ) (p : List ℕ × List ℕ) → R x p → SameTruth (machine_guard joined env inputs x) (both_guard p)
  guards x p h = guards_of_both inputs env w m stage scoped x p h

  turns : (r : List ℕ) → length r ≡ w → (x : List ℕ) (p : List ℕ × List ℕ) → R x p → AlikeTurns R (machine_turn joined env inputs x r) (both_takes p r)
  turns r hr x p h = turns_of_both laws inputs env w m stage over scoped r hr x p h

  begins : R (first_state joined env inputs) (first_state m env inputs, first_state stage env inputs)
  begins = states_joined inputs env w m stage

-- ---- over a machine

module _ (laws : Laws) (inputs : List Input) (env : List ℕ) (m stage : MachineParts) (over : IsStageOver 0 m stage) (scoped : length env ≡ m.scope) where
  abbrev turn_of : MachineParts → List ℕ → Turn (List ℕ)
  turn_of m s = machine_turn m env inputs s []

  abbrev step : List ℕ × List ℕ → Turn (List ℕ × List ℕ)
  step = join_step (turn_of m) (machine_turn stage env inputs)

  steps : (x : List ℕ) (p : List ℕ × List ℕ) → R laws inputs env 0 m stage over scoped x p → AlikeTurns (R laws inputs env 0 m stage over scoped) (turn_of (stage_machine 0 m stage) x) (step p)
  steps x p h = turns laws inputs env 0 m stage over scoped [] refl x p h

  pub machine_joined : (n : ℕ) → core_rows (machine_core (stage_machine 0 m stage)) env inputs n ≡ core_rows (stage_core (machine_core m) stage) env inputs n
  machine_joined n =
      alike_rows (BothStates (length m.init) (length stage.init)) (machine_guard (stage_machine 0 m stage) env inputs) (turn_of (stage_machine 0 m stage))
      (both_guard laws inputs env 0 m stage over scoped) step (guards laws inputs env 0 m stage over scoped) steps
      n (first_state (stage_machine 0 m stage) env inputs) (first_state m env inputs, first_state stage env inputs) (begins laws inputs env 0 m stage over scoped)
      ∙ laws.stage_rows_over (machine_guard m env inputs) (turn_of m) (machine_guard stage env inputs) (machine_turn stage env inputs) n
      (first_state m env inputs) (first_state stage env inputs)

  pub machine_reached : (rows : Rows) (v : ℕ) → Runs (machine_guard m env inputs) (turn_of m) rows (first_state m env inputs) v → Runs (machine_guard (stage_machine 0 m stage) env inputs) (turn_of (stage_machine 0 m stage)) (stage_rows (machine_guard stage env inputs) (machine_turn stage env inputs) (first_state stage env inputs) rows) (first_state (stage_machine 0 m stage) env inputs) v
  machine_reached rows v h =
      alike_runs (BothStates (length m.init) (length stage.init)) (machine_guard (stage_machine 0 m stage) env inputs) (turn_of (stage_machine 0 m stage))
      (both_guard laws inputs env 0 m stage over scoped) step (guards laws inputs env 0 m stage over scoped) steps
      (laws.stage_reaches (machine_guard m env inputs) (turn_of m) (machine_guard stage env inputs) (machine_turn stage env inputs) rows
      (first_state m env inputs) (first_state stage env inputs) v h)
      (first_state (stage_machine 0 m stage) env inputs) (begins laws inputs env 0 m stage over scoped)

-- ---- over a stage

module _ (laws : Laws) (inputs : List Input) (env : List ℕ) (of : CoreTerm) (m stage : MachineParts) (over : IsStageOver (core_width of) m stage) (scoped : length env ≡ m.scope) where
  abbrev w : ℕ
  w = core_width of

  pub stage_joined : (n : ℕ) → core_rows (stage_core of (stage_machine w m stage)) env inputs n ≡ core_rows (stage_core (stage_core of m) stage) env inputs n
  stage_joined n =
      alike_stages (BothStates (length m.init) (length stage.init)) (λ r. length r ≡ w) (machine_guard (stage_machine w m stage) env inputs) (machine_turn (stage_machine w m stage) env inputs)
      (both_guard laws inputs env w m stage over scoped) (both_takes laws inputs env w m stage over scoped) (guards laws inputs env w m stage over scoped) (turns laws inputs env w m stage over scoped)
      (core_rows of env inputs n) (laws.widths of env inputs n) (first_state (stage_machine w m stage) env inputs) (first_state m env inputs, first_state stage env inputs) (begins laws inputs env w m stage over scoped)
      ∙ laws.stage_rows_through (machine_guard m env inputs) (machine_turn m env inputs) (machine_guard stage env inputs) (machine_turn stage env inputs)
      (core_rows of env inputs n) (first_state m env inputs) (first_state stage env inputs)
