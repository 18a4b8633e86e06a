-- A state that is two states, one behind the other.
use Rattle.std.specs.Prelude.{◌≡◌, ℕ, List, ◌++◌, length}

-- a state of a words, and behind it one of b
pub data BothStates (a b : ℕ) : List ℕ → List ℕ × List ℕ → Type 0 where
  both : (x s t : List ℕ) → x ≡ s ++ t → length s ≡ a → length t ≡ b → BothStates a b x (s, t)
