-- One machine for an outer machine and an inner one for each of its rows, over states of any types: each of its turns is one of
-- the outer machine, or one of the inner machine that is open. A row of the outer machine opens an inner one at its start. An
-- inner machine that comes to its end is closed, in a turn of its own where its guard is false.
use Rattle.std.specs.Prelude.{ℕ, List}
use Rattle.list_denotation.specs.Values.{choice}
use Rattle.stateful_core.specs.Turns.{Turn, Gives, Skips, Stops, Breaks}

-- no inner machine is open, or one is, which a row has opened
pub data NestState (S T : Type 0) : Type 0 where
  Closed : (outer : S) → NestState S T
  Opened : (row : List ℕ) → (outer : S) → (inner : T) → NestState S T

-- where an inner machine is open all goes on
abbrev pub nest_guard : {S T : Type 0} → (S → ℕ) → NestState S T → ℕ
nest_guard guard (Closed s) = guard s
nest_guard guard (Opened r s t) = 1

-- a turn of the outer machine
abbrev pub outer_turn : {S T : Type 0} → (List ℕ → T) → Turn S → Turn (NestState S T)
outer_turn start (Gives r s) = Skips (Opened r s (start r))
outer_turn start (Skips s) = Skips (Closed s)
outer_turn start Stops = Stops
outer_turn start (Breaks f) = Breaks f

-- a turn of the inner machine that the row r has opened, while the outer one is in the state s
abbrev pub inner_turn : {S T : Type 0} → List ℕ → S → Turn T → Turn (NestState S T)
inner_turn r s (Gives q t) = Gives q (Opened r s t)
inner_turn r s (Skips t) = Skips (Opened r s t)
inner_turn r s Stops = Skips (Closed s)
inner_turn r s (Breaks f) = Breaks f

abbrev pub nest_step : {S T : Type 0} → (S → Turn S) → (List ℕ → T → ℕ) → (List ℕ → T → Turn T) → (List ℕ → T) → NestState S T → Turn (NestState S T)
nest_step turn opens takes start (Closed s) = outer_turn start (turn s)
nest_step turn opens takes start (Opened r s t) = choice (opens r t) (Skips (Closed s)) (inner_turn r s (takes r t))
