-- The rows of a core term at a bound, in the scope of the bound words.
use Rattle.std.specs.Prelude.{ℕ, List, [], ◌++◌}
use Rattle.list_denotation.specs.declared.input.Input.{Input}
use Rattle.list_denotation.specs.Terms.{Term}
use Rattle.list_denotation.specs.Rows.{Rows, join_rows, zip_rows}
use Rattle.stateful_core.specs.CoreTerms.{Actions, CoreTerm, Lin, Tr, Nest, Zip}
use Rattle.stateful_core.specs.WordValues.{word_value, word_values}
use Rattle.stateful_core.specs.Actions.{ActResult, Continue, Skip, Halt, Break, run_acts}
use Rattle.stateful_core.specs.Turns.{Turn, Gives, Skips, Stops, Breaks, turn_rows, stage_rows}

-- the end of a turn behind its acts
abbrev pub turn_end : ActResult → (List ℕ → List ℕ → List ℕ) → Turn (List ℕ)
turn_end (Continue state locals) item = Gives (item state locals) state
turn_end (Skip state) item = Skips state
turn_end (Halt state) item = Stops
turn_end (Break f) item = Breaks f

-- one turn from a state, whose local words begin as a row
abbrev pub core_turn : Actions → List Term → List ℕ → List Input → List ℕ → List ℕ → Turn (List ℕ)
core_turn acts item env inputs state row =
    turn_end (run_acts acts env inputs state row) (λ s l. word_values item (env ++ (s ++ l)) inputs)

abbrev pub guard_value : Term → List ℕ → List Input → List ℕ → ℕ
guard_value guard env inputs state = word_value guard (env ++ state) inputs

abbrev pub core_rows : CoreTerm → List ℕ → List Input → ℕ → Rows
core_rows (Lin scope init guard acts item) env inputs n =
    turn_rows (guard_value guard env inputs) (λ s. core_turn acts item env inputs s []) n (word_values init env inputs)
core_rows (Tr scope of init guard acts item) env inputs n =
    stage_rows (guard_value guard env inputs) (core_turn acts item env inputs) (word_values init env inputs) (core_rows of env inputs n)
core_rows (Nest of inner) env inputs n = join_rows (core_rows of env inputs n) (λ r. core_rows inner (env ++ r) inputs n)
core_rows (Zip left right) env inputs n = zip_rows (core_rows left env inputs n) (core_rows right env inputs n)
