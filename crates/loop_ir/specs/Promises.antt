-- What is promised of the definitions. Each statement has one name, which its law and those who stand on it cite.
use Rattle.std.specs.Prelude.{◌≡◌, ℕ, ◌+◌, ◌≤◌, List, length, slice_index}
use Rattle.list_denotation.specs.declared.input.Input.{Input}
use Rattle.list_denotation.specs.Far.{Far}
use Rattle.list_denotation.specs.Observation.{Going}
use Rattle.loop_ir.specs.Counts.{block_loops}
use Rattle.loop_ir.specs.LoopTurns.{loop_turns, all_turns}
use Rattle.loop_ir.specs.Marks.{marked, IsMarkedSo}
use Rattle.loop_ir.specs.Meaning.{meaning}
use Rattle.loop_ir.specs.Statements.{Routine}
use Rattle.loop_ir.specs.WellFormed.{IsWellFormed}

-- A run with one more turn goes at least as far: it is the same, or the run with fewer turns was
-- still going and what it had written begins what the other one writes.
abbrev pub RunsGrow : Type 0
RunsGrow =
    (q : Routine) (inputs : List Input) (m : ℕ)
    → Far (meaning q inputs m) (meaning q inputs (m + 1))

-- There is a number of turns for each loop. With one more turn of the run no loop makes fewer, and
-- where the run is over each makes as many. Together they make the turns that are gone, which are
-- all of them where the run is still going.
abbrev pub EachLoopHasItsTurns : Type 0
EachLoopHasItsTurns =
    (q : Routine) (inputs : List Input) (m : ℕ)
    → length (loop_turns q inputs m) ≡ block_loops q.body

abbrev pub TurnsOfLoopsGrow : Type 0
TurnsOfLoopsGrow =
    (q : Routine) (inputs : List Input) (m k : ℕ)
    → slice_index (loop_turns q inputs m) k ≤ slice_index (loop_turns q inputs (m + 1)) k

abbrev pub TurnsOfLoopsStay : Type 0
TurnsOfLoopsStay =
    (q : Routine) (inputs : List Input) (m : ℕ)
    → ((meaning q inputs m).standing ≡ Going → ⊥)
    → loop_turns q inputs m ≡ loop_turns q inputs (m + 1)

abbrev pub TurnsOfLoopsAreSpent : Type 0
TurnsOfLoopsAreSpent =
    (q : Routine) (inputs : List Input) (m : ℕ)
    → all_turns (loop_turns q inputs m) ≤ m

abbrev pub GoingRunsHaveSpentAllTurns : Type 0
GoingRunsHaveSpentAllTurns =
    (q : Routine) (inputs : List Input) (m : ℕ)
    → (meaning q inputs m).standing ≡ Going → all_turns (loop_turns q inputs m) ≡ m

-- A loop program of which one loop is marked does what the program does, and ends one row more for
-- each turn of that loop; so these turns are a count of events. It has the program's loops, and is
-- well formed where the program is.
abbrev pub MarksTellTurns : Type 0
MarksTellTurns =
    (q : Routine) (inputs : List Input) (m k : ℕ)
    → IsMarkedSo (slice_index (loop_turns q inputs m) k) (meaning q inputs m)
    (meaning (marked k q) inputs m)

abbrev pub MarkedProgramsHaveTheSameLoops : Type 0
MarkedProgramsHaveTheSameLoops =
    (q : Routine) (k : ℕ) → block_loops (marked k q).body ≡ block_loops q.body

abbrev pub MarkedProgramsAreWellFormed : Type 0
MarkedProgramsAreWellFormed =
    (q : Routine) (k : ℕ) → IsWellFormed q → IsWellFormed (marked k q)
