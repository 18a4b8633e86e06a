-- What is promised of the definitions. Each statement has one name, which its law and those who stand on it cite.
use Rattle.std.specs.Prelude.{◌≡◌, ℕ, ◌≤◌, List}
use Rattle.list_denotation.specs.declared.input.Input.{Input}
use Rattle.list_denotation.specs.Observation.{Failed}
use Rattle.list_denotation.specs.Values.{Stuck}
use Rattle.loop_ir.specs.Counts.{block_count, block_loops, block_nest}
use Rattle.loop_ir.specs.LoopTurns.{loop_turns}
use Rattle.loop_ir.specs.Meaning.{meaning}
use Rattle.loop_ir.specs.Statements.{Routine}
use Rattle.loop_ir.specs.WellFormed.{IsWellFormed}
use Rattle.dead_code.specs.LiveRoutines.{live_routine}

-- Where a run of a loop program doesn't come to what C leaves undefined, the program means the same without its dead code.
abbrev pub DeadCodeDoesNothing : Type 0
DeadCodeDoesNothing =
    (q : Routine) (inputs : List Input) (m : ℕ)
    → ((meaning q inputs m).standing ≡ Failed Stuck → ⊥)
    → meaning (live_routine q) inputs m ≡ meaning q inputs m

-- And then each of its loops spends the same turns.
abbrev pub DeadCodeSpendsNoTurns : Type 0
DeadCodeSpendsNoTurns =
    (q : Routine) (inputs : List Input) (m : ℕ)
    → ((meaning q inputs m).standing ≡ Failed Stuck → ⊥)
    → loop_turns (live_routine q) inputs m ≡ loop_turns q inputs m

-- a loop program with the parameters and the loops of another one, and no more variables and statements
pub record IsNoLarger (q r : Routine) : Type 0 where
  pub params : r.params ≡ q.params
  pub vars : r.vars ≤ q.vars
  pub loops : block_loops r.body ≡ block_loops q.body
  pub nest : block_nest r.body ≡ block_nest q.body
  pub statements : block_count r.body ≤ block_count q.body

abbrev pub LiveProgramsAreNoLarger : Type 0
LiveProgramsAreNoLarger = (q : Routine) → IsNoLarger q (live_routine q)

abbrev pub LiveProgramsAreWellFormed : Type 0
LiveProgramsAreWellFormed = (q : Routine) → IsWellFormed q → IsWellFormed (live_routine q)
