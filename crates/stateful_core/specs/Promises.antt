-- What is promised of the definitions. Each statement has one name, which its law and those who stand on it cite.
use Rattle.std.specs.Prelude.{◌≡◌, ◌≢◌, ℕ, List, length, IsTrue}
use Rattle.list_denotation.specs.declared.input.Input.{Input}
use Rattle.list_denotation.specs.Terms.{Term}
use Rattle.denotation_laws.specs.RowWords.{EachRow}
use Rattle.stateful_core.specs.CoreRows.{core_turn, core_rows}
use Rattle.stateful_core.specs.CoreShapes.{core_width, are_exact_actions}
use Rattle.stateful_core.specs.CoreTerms.{Actions, CoreTerm}
use Rattle.stateful_core.specs.Turns.{Skips}

-- A turn whose acts hold no KeepIf, at any depth, ends with a row, with a stop or at a fault.
abbrev pub ExactActsSkipNoTurn : Type 0
ExactActsSkipNoTurn =
    (acts : Actions) (item : List Term) (env : List ℕ) (inputs : List Input)
    (s r t : List ℕ) → IsTrue (are_exact_actions acts)
    → core_turn acts item env inputs s r ≢ Skips t

-- The rows of a core term have its width, at each bound and whatever the bound words are.
abbrev pub CoreRowsHaveTheirWidth : Type 0
CoreRowsHaveTheirWidth =
    (c : CoreTerm) (env : List ℕ) (inputs : List Input) (n : ℕ)
    → EachRow (λ r. length r ≡ core_width c) (core_rows c env inputs n)
