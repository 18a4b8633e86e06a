-- Rows that are made turn by turn, over states of any type.
use Rattle.std.specs.Prelude.{ℕ, zero, suc, ◌+◌, List}
use Rattle.list_denotation.specs.Values.{Fault, choice}
use Rattle.list_denotation.specs.Rows.{End, Cut, Broken, Rows, Ends, Row}

-- how a turn ends: with a row, or without one, each with the next state; with a stop; at a fault
pub data Turn (S : Type 0) : Type 0 where
  Gives : (row : List ℕ) → (state : S) → Turn S
  Skips : (state : S) → Turn S
  Stops : Turn S
  Breaks : Fault → Turn S

-- the row of a turn, if any, and those behind it
abbrev pub after_turn : {S : Type 0} → Turn S → (S → Rows) → Rows
after_turn (Gives row state) go = Row row (go state)
after_turn (Skips state) go = go state
after_turn Stops go = Ends End
after_turn (Breaks f) go = Ends (Broken f)

-- the rows of at most n turns from a state on, while the guard is true
abbrev pub turn_rows : {S : Type 0} → (S → ℕ) → (S → Turn S) → ℕ → S → Rows
turn_rows guard turn zero state = choice (guard state) (Ends End) (Ends Cut)
turn_rows guard turn (suc n) state = choice (guard state) (Ends End) (after_turn (turn state) (λ next. turn_rows guard turn n next))

-- one for a turn that ends with a row or without one, and those behind it
abbrev pub count_turn : {S : Type 0} → Turn S → (S → ℕ) → ℕ
count_turn (Gives row state) go = go state + 1
count_turn (Skips state) go = go state + 1
count_turn Stops go = 0
count_turn (Breaks f) go = 0

-- how many of these turns end with a row or without one
abbrev pub turn_count : {S : Type 0} → (S → ℕ) → (S → Turn S) → ℕ → S → ℕ
turn_count guard turn zero state = 0
turn_count guard turn (suc n) state = choice (guard state) 0 (count_turn (turn state) (λ next. turn_count guard turn n next))

-- what turns make of rows, one for each. The guard is looked at before each row, and behind the last
abbrev pub stage_rows : {S : Type 0} → (S → ℕ) → (S → List ℕ → Turn S) → S → Rows → Rows
stage_rows guard turn state (Ends e) = choice (guard state) (Ends End) (Ends e)
stage_rows guard turn state (Row row rest) =
    choice (guard state) (Ends End) (after_turn (turn state row) (λ next. stage_rows guard turn next rest))
