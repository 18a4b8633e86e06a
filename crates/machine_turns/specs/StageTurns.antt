-- One machine for a machine and a stage over its rows, over states of any types: each of its turns is one of the machine, and
-- one of the stage where that gives a row. So too one stage for a stage and another one over its rows.
use Rattle.std.specs.Prelude.{ℕ, List}
use Rattle.list_denotation.specs.Values.{choice}
use Rattle.stateful_core.specs.Turns.{Turn, Gives, Skips, Stops, Breaks}

-- a turn of the stage, behind which the machine is in the state s
abbrev pub with_state : {S T : Type 0} → Turn T → S → Turn (S × T)
with_state (Gives r t) s = Gives r (s, t)
with_state (Skips t) s = Skips (s, t)
with_state Stops s = Stops
with_state (Breaks f) s = Breaks f

abbrev pub join_turn : {S T : Type 0} → Turn S → (T → List ℕ → Turn T) → T → Turn (S × T)
join_turn (Gives r s) takes t = with_state (takes t r) s
join_turn (Skips s) takes t = Skips (s, t)
join_turn Stops takes t = Stops
join_turn (Breaks f) takes t = Breaks f

-- the guard of the stage is looked at first
abbrev pub join_guard : {S T : Type 0} → (S → ℕ) → (T → ℕ) → S × T → ℕ
join_guard guard opens p = choice (opens p.1) 0 (guard p.0)

-- a turn of a lower stage over a row, and one of the stage over its rows
abbrev pub join_takes : {S T : Type 0} → (S → List ℕ → Turn S) → (T → List ℕ → Turn T) → S × T → List ℕ → Turn (S × T)
join_takes lower takes p r = join_turn (lower p.0 r) takes p.1

abbrev pub join_step : {S T : Type 0} → (S → Turn S) → (T → List ℕ → Turn T) → S × T → Turn (S × T)
join_step turn takes p = join_turn (turn p.0) takes p.1
