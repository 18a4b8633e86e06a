-- When two turns, over states of any types, end alike, and when two guards are true together.
use Rattle.std.specs.Prelude.{◌≡◌, ℕ, List}
use Rattle.list_denotation.specs.Values.{Fault, choice}
use Rattle.stateful_core.specs.Turns.{Turn, Gives, Skips, Stops, Breaks}

-- two turns end alike, with states of which R holds
pub data AlikeTurns {A B : Type 0} (R : A → B → Type 0) : Turn A → Turn B → Type 0 where
  both_give : (r : List ℕ) {x : A} {y : B} → R x y → AlikeTurns R (Gives r x) (Gives r y)
  both_skip : {x : A} {y : B} → R x y → AlikeTurns R (Skips x) (Skips y)
  both_stop : AlikeTurns R Stops Stops
  both_break : (f : Fault) → AlikeTurns R (Breaks f) (Breaks f)

-- two words that are both true or both false
abbrev pub SameTruth : ℕ → ℕ → Type 0
SameTruth a b = choice {A = ℕ} a 0 1 ≡ choice b 0 1
