-- What is promised of the definitions. Each statement has one name, which its law and those who stand on it cite.
use Rattle.std.specs.Prelude.{◌≡◌, ℕ, ◌+◌, List, length}
use Rattle.list_denotation.specs.Rows.{Rows, join_rows, zip_rows}
use Rattle.list_denotation.specs.Work.{sum_over}
use Rattle.denotation_laws.specs.FarRows.{FarRows}
use Rattle.denotation_laws.specs.RowWords.{EachRow}
use Rattle.stateful_core.specs.Turns.{Turn, turn_rows, turn_count, stage_rows}
use Rattle.machine_turns.specs.MachineRuns.{Runs}
use Rattle.machine_turns.specs.StageTurns.{join_guard, join_takes, join_step}
use Rattle.machine_turns.specs.NestTurns.{Closed, nest_guard, nest_step}
use Rattle.machine_turns.specs.ZipTurns.{LeftDue, zip_guard, zip_step}

-- Rows that a machine reaches in so many turns are as far as what it gives in these. A machine
-- reaches its own rows in the turns that end with a row or without one, and 1.
abbrev pub ReachedRowsAreAsFar : Type 0
ReachedRowsAreAsFar =
    (guard : List ℕ → ℕ) (turn : List ℕ → Turn (List ℕ)) (rows : Rows) (s : List ℕ)
    (w : ℕ) → Runs guard turn rows s w → FarRows rows (turn_rows guard turn w s)

abbrev pub MachinesReachTheirRows : Type 0
MachinesReachTheirRows =
    (guard : List ℕ → ℕ) (turn : List ℕ → Turn (List ℕ)) (n : ℕ) (s : List ℕ)
    → Runs guard turn (turn_rows guard turn n s) s (turn_count guard turn n s + 1)

-- A stage over a machine: the rows of both in one are what the stage makes of those of the machine,
-- and they are reached in as many turns. So too a stage over another one, for any rows. What a stage
-- makes of rows is as far as these.
abbrev pub StagesMakeTheirRowsOfMachines : Type 0
StagesMakeTheirRowsOfMachines =
    (guard : List ℕ → ℕ) (turn : List ℕ → Turn (List ℕ)) (opens : List ℕ → ℕ)
    (takes : List ℕ → List ℕ → Turn (List ℕ)) (n : ℕ) (s t : List ℕ)
    → turn_rows (join_guard guard opens) (join_step turn takes) n (s, t)
    ≡ stage_rows opens takes t (turn_rows guard turn n s)

abbrev pub StagesMakeTheirRowsOfStages : Type 0
StagesMakeTheirRowsOfStages =
    (guard : List ℕ → ℕ) (lower : List ℕ → List ℕ → Turn (List ℕ)) (opens : List ℕ → ℕ)
    (takes : List ℕ → List ℕ → Turn (List ℕ)) (rows : Rows) (s t : List ℕ)
    → stage_rows (join_guard guard opens) (join_takes lower takes) (s, t) rows
    ≡ stage_rows opens takes t (stage_rows guard lower s rows)

abbrev pub StagesReachTheirRows : Type 0
StagesReachTheirRows =
    (guard : List ℕ → ℕ) (turn : List ℕ → Turn (List ℕ)) (opens : List ℕ → ℕ)
    (takes : List ℕ → List ℕ → Turn (List ℕ)) (rows : Rows) (s t : List ℕ) (w : ℕ)
    → Runs guard turn rows s w
    → Runs (join_guard guard opens) (join_step turn takes) (stage_rows opens takes t rows)
    (s, t) w

abbrev pub StagesKeepFarRows : Type 0
StagesKeepFarRows =
    (opens : List ℕ → ℕ) (takes : List ℕ → List ℕ → Turn (List ℕ)) (t : List ℕ)
    (o u : Rows) → FarRows o u
    → FarRows (stage_rows opens takes t o) (stage_rows opens takes t u)

-- An inner machine for each row of an outer one: the rows of both in one are no further than the
-- inner lists joined, and these are reached in the turns of the outer machine and of each inner one
-- that is opened.
abbrev pub InnerMachinesGoNoFurther : Type 0
InnerMachinesGoNoFurther =
    (guard : List ℕ → ℕ) (turn : List ℕ → Turn (List ℕ))
    (opens : List ℕ → List ℕ → ℕ) (takes : List ℕ → List ℕ → Turn (List ℕ))
    (start : List ℕ → List ℕ) (n : ℕ) (s : List ℕ)
    → FarRows (turn_rows (nest_guard guard) (nest_step turn opens takes start) n (Closed s))
    (join_rows (turn_rows guard turn n s)
    (λ r. turn_rows (opens r) (takes r) n (start r)))

abbrev pub InnerMachinesReachJoinedRows : Type 0
InnerMachinesReachJoinedRows =
    (guard : List ℕ → ℕ) (turn : List ℕ → Turn (List ℕ))
    (opens : List ℕ → List ℕ → ℕ) (takes : List ℕ → List ℕ → Turn (List ℕ))
    (start : List ℕ → List ℕ) (width : ℕ) (inner : List ℕ → Rows) (turns : List ℕ → ℕ)
    → ((r : List ℕ) → length r ≡ width
    → Runs (opens r) (takes r) (inner r) (start r) (turns r))
    → (rows : Rows) (s : List ℕ) (w : ℕ) → Runs guard turn rows s w
    → EachRow (λ r. length r ≡ width) rows
    → Runs (nest_guard guard) (nest_step turn opens takes start) (join_rows rows inner)
    (Closed s) (w + sum_over rows inner turns ◌+◌ 0)

-- Two machines side by side: the rows of both in one are no further than those of the two, row by
-- row, and these are reached in the turns of both.
abbrev pub MachinesSideBySideGoNoFurther : Type 0
MachinesSideBySideGoNoFurther =
    (guard : List ℕ → ℕ) (turn : List ℕ → Turn (List ℕ))
    (opens : List ℕ → ℕ) (takes : List ℕ → Turn (List ℕ)) (n : ℕ) (s t : List ℕ)
    → FarRows (turn_rows (zip_guard guard opens) (zip_step turn takes) n (LeftDue s t))
    (zip_rows (turn_rows guard turn n s) (turn_rows opens takes n t))

abbrev pub MachinesSideBySideReachZippedRows : Type 0
MachinesSideBySideReachZippedRows =
    (guard : List ℕ → ℕ) (turn : List ℕ → Turn (List ℕ))
    (opens : List ℕ → ℕ) (takes : List ℕ → Turn (List ℕ)) (x y : Rows) (s t : List ℕ)
    (a b : ℕ) → Runs guard turn x s a → Runs opens takes y t b
    → Runs (zip_guard guard opens) (zip_step turn takes) (zip_rows x y) (LeftDue s t) (a + b)
