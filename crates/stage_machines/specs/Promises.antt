-- What is promised of the definitions. Each statement has one name, which its law and those who stand on it cite.
use Rattle.std.specs.Prelude.{◌≡◌, ℕ, ◌+◌, ◌≤◌, Bool, List, [], length, max, IsTrue}
use Rattle.list_denotation.specs.declared.input.Input.{Input}
use Rattle.list_denotation.specs.Rows.{Rows}
use Rattle.list_denotation.specs.Terms.{Term}
use Rattle.stateful_core.specs.CoreLeaves.{core_leaves}
use Rattle.stateful_core.specs.CoreRows.{core_rows}
use Rattle.stateful_core.specs.CoreShapes.{core_width}
use Rattle.stateful_core.specs.CoreTerms.{CoreTerm}
use Rattle.stateful_core.specs.MostWords.{core_temps, added_words}
use Rattle.stateful_core.specs.Turns.{stage_rows}
use Rattle.act_moves.specs.Renumbering.{renumber}
use Rattle.machine_turns.specs.AlikeTurns.{AlikeTurns, SameTruth}
use Rattle.machine_turns.specs.MachineRuns.{Runs}
use Rattle.machine_turns.specs.StageTurns.{join_turn, join_guard}
use Rattle.stage_machines.specs.JoinedStates.{BothStates}
use Rattle.stage_machines.specs.MachineParts.{MachineParts, machine_core, stage_core, first_state, machine_guard, machine_turn, is_sound_machine}
use Rattle.stage_machines.specs.StageMachine.{stage_machine, IsStageOver}

-- ---- turns

-- A stage over other parts, in one: the state is both states, and so it begins; a turn is one of the lower part, over the row
-- that it begins with, and one of the stage where that gives a row; and the guard is true where both are.
abbrev pub JoinedStatesAreBoth : Type 0
JoinedStatesAreBoth =
    (w : ℕ) (m stage : MachineParts) (env : List ℕ) (inputs : List Input)
    → BothStates (length m.init) (length stage.init) (first_state (stage_machine w m stage) env inputs)
    (first_state m env inputs, first_state stage env inputs)

abbrev pub JoinedTurnsAreThoseOfBoth : Type 0
JoinedTurnsAreThoseOfBoth =
    (w : ℕ) (m stage : MachineParts) (env : List ℕ) (inputs : List Input) (r x : List ℕ) (p : List ℕ × List ℕ)
    → IsStageOver w m stage → length env ≡ m.scope → length r ≡ w → BothStates (length m.init) (length stage.init) x p
    → AlikeTurns (BothStates (length m.init) (length stage.init)) (machine_turn (stage_machine w m stage) env inputs x r)
    (join_turn (machine_turn m env inputs p.0 r) (machine_turn stage env inputs) p.1)

abbrev pub JoinedGuardsAreThoseOfBoth : Type 0
JoinedGuardsAreThoseOfBoth =
    (w : ℕ) (m stage : MachineParts) (env : List ℕ) (inputs : List Input) (x : List ℕ) (p : List ℕ × List ℕ)
    → length env ≡ m.scope → BothStates (length m.init) (length stage.init) x p
    → SameTruth (machine_guard (stage_machine w m stage) env inputs x)
    (join_guard (machine_guard m env inputs) (machine_guard stage env inputs) p)

-- ---- rows

-- A stage over a machine, in one machine, has the rows of the stage over the rows of the machine, and reaches what the stage
-- makes of rows in the turns in which the machine reaches these. A stage over a stage, in one stage, has the rows of the one
-- over the rows of the other.
abbrev pub StagesJoinMachines : Type 0
StagesJoinMachines =
    (m stage : MachineParts) (env : List ℕ) (inputs : List Input) (n : ℕ)
    → IsStageOver 0 m stage → length env ≡ m.scope
    → core_rows (machine_core (stage_machine 0 m stage)) env inputs n ≡ core_rows (stage_core (machine_core m) stage) env inputs n

abbrev pub JoinedMachinesReachRows : Type 0
JoinedMachinesReachRows =
    (m stage : MachineParts) (env : List ℕ) (inputs : List Input) (rows : Rows) (v : ℕ)
    → IsStageOver 0 m stage → length env ≡ m.scope
    → Runs (machine_guard m env inputs) (λ s. machine_turn m env inputs s []) rows (first_state m env inputs) v
    → Runs (machine_guard (stage_machine 0 m stage) env inputs) (λ s. machine_turn (stage_machine 0 m stage) env inputs s [])
    (stage_rows (machine_guard stage env inputs) (machine_turn stage env inputs) (first_state stage env inputs) rows)
    (first_state (stage_machine 0 m stage) env inputs) v

abbrev pub StagesJoinStages : Type 0
StagesJoinStages =
    (of : CoreTerm) (m stage : MachineParts) (env : List ℕ) (inputs : List Input) (n : ℕ)
    → IsStageOver (core_width of) m stage → length env ≡ m.scope
    → core_rows (stage_core of (stage_machine (core_width of) m stage)) env inputs n
    ≡ core_rows (stage_core (stage_core of m) stage) env inputs n

-- ---- parts

-- A stage over other parts, in one, is sound as they are, adds no more words than both, has no leaves but theirs, but for the
-- numbers of words, and needs no more temporaries.
abbrev pub JoinedPartsAreSound : Type 0
JoinedPartsAreSound =
    (w : ℕ) (m stage : MachineParts) → IsStageOver w m stage → IsTrue (is_sound_machine w (stage_machine w m stage))

abbrev pub JoinedPartsAddNoWords : Type 0
JoinedPartsAddNoWords =
    (w : ℕ) (m stage : MachineParts) → IsStageOver w m stage
    → added_words (machine_core (stage_machine w m stage)) ≤ added_words (machine_core m) + added_words (machine_core stage)

abbrev pub JoinedPartsHaveLeavesOfBoth : Type 0
JoinedPartsHaveLeavesOfBoth =
    (test : Term → Bool) → ((f : ℕ → ℕ) (e : Term) → IsTrue (test e) → IsTrue (test (renumber f e)))
    → (w : ℕ) (m stage : MachineParts) → IsTrue (core_leaves test (machine_core m)) → IsTrue (core_leaves test (machine_core stage))
    → IsTrue (core_leaves test (machine_core (stage_machine w m stage)))

abbrev pub JoinedPartsNeedTemporariesOfBoth : Type 0
JoinedPartsNeedTemporariesOfBoth =
    (w : ℕ) (m stage : MachineParts)
    → core_temps (machine_core (stage_machine w m stage)) ≤ max (core_temps (machine_core m)) (core_temps (machine_core stage))
