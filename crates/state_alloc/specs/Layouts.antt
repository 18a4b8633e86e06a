-- The variables that the words of a scope stand in, and the variables of temporaries.
use Rattle.std.specs.Prelude.{ℕ, ◌+◌, ◌^◌, ◌<◌, ◌≤◌, List, All}

-- so many variables from `first_temp` on are temporaries
abbrev pub IsTemporary : ℕ → ℕ → ℕ → Type 0
IsTemporary first_temp temps v = (first_temp ≤ v) × (v < first_temp + temps)

-- a variable that a word may stand in: it was given out, and is no temporary
pub record IsWordVariable (first_temp temps next v : ℕ) : Type 0 where
  pub below : v < next
  pub apart : ¬ IsTemporary first_temp temps v

-- the variables below `next` were given out: the temporaries, and those of the bound words
pub record IsLaidOut (rows : List ℕ) (first_temp temps next : ℕ) : Type 0 where
  pub few : next < 2 ^ 32
  pub temporaries : first_temp + temps ≤ next
  pub words : All (IsWordVariable first_temp temps next) rows

-- no variable from `first` on is that of a bound word or a temporary
pub record IsFresh (rows : List ℕ) (first_temp temps first : ℕ) : Type 0 where
  pub words : All (λ v. v < first) rows
  pub temporaries : first_temp + temps ≤ first
