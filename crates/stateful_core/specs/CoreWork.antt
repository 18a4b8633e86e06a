-- How many turns a core term takes: for each Lin that is opened, those that end with a row or without one, and 1.
use Rattle.std.specs.Prelude.{ℕ, ◌+◌, List, [], ◌++◌}
use Rattle.list_denotation.specs.declared.input.Input.{Input}
use Rattle.list_denotation.specs.Work.{sum_over}
use Rattle.stateful_core.specs.CoreTerms.{CoreTerm, Lin, Tr, Nest, Zip}
use Rattle.stateful_core.specs.WordValues.{word_values}
use Rattle.stateful_core.specs.Turns.{turn_count}
use Rattle.stateful_core.specs.CoreRows.{core_turn, guard_value, core_rows}

abbrev pub core_work : CoreTerm → List ℕ → List Input → ℕ → ℕ
core_work (Lin scope init guard acts item) env inputs n =
    turn_count (guard_value guard env inputs) (λ s. core_turn acts item env inputs s []) n (word_values init env inputs) + 1
core_work (Tr scope of init guard acts item) env inputs n = core_work of env inputs n
core_work (Nest of inner) env inputs n =
    core_work of env inputs n
    + sum_over (core_rows of env inputs n) (λ r. core_rows inner (env ++ r) inputs n) (λ r. core_work inner (env ++ r) inputs n) ◌+◌ 0
core_work (Zip left right) env inputs n = core_work left env inputs n + core_work right env inputs n
