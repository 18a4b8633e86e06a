-- One machine for two side by side, over states of any types: each of its turns is one of the left machine, or, while a row of
-- that is held, one of the right machine. So the left one gives its row first, and only then is the end of the right one seen.
use Rattle.std.specs.Prelude.{ℕ, List, ◌++◌}
use Rattle.stateful_core.specs.Turns.{Turn, Gives, Skips, Stops, Breaks}

-- the left machine is due, or the right one, for the row that is held
pub data ZipState (S T : Type 0) : Type 0 where
  LeftDue : (left : S) → (right : T) → ZipState S T
  RightDue : (row : List ℕ) → (left : S) → (right : T) → ZipState S T

abbrev pub zip_guard : {S T : Type 0} → (S → ℕ) → (T → ℕ) → ZipState S T → ℕ
zip_guard guard opens (LeftDue s t) = guard s
zip_guard guard opens (RightDue r s t) = opens t

-- a turn of the left machine, while the right one is in the state t
abbrev pub left_turn : {S T : Type 0} → T → Turn S → Turn (ZipState S T)
left_turn t (Gives r s) = Skips (RightDue r s t)
left_turn t (Skips s) = Skips (LeftDue s t)
left_turn t Stops = Stops
left_turn t (Breaks f) = Breaks f

-- a turn of the right machine, while the row r is held and the left one is in the state s
abbrev pub right_turn : {S T : Type 0} → List ℕ → S → Turn T → Turn (ZipState S T)
right_turn r s (Gives q t) = Gives (r ++ q) (LeftDue s t)
right_turn r s (Skips t) = Skips (RightDue r s t)
right_turn r s Stops = Stops
right_turn r s (Breaks f) = Breaks f

abbrev pub zip_step : {S T : Type 0} → (S → Turn S) → (T → Turn T) → ZipState S T → Turn (ZipState S T)
zip_step turn takes (LeftDue s t) = left_turn t (turn s)
zip_step turn takes (RightDue r s t) = right_turn r s (takes t)
