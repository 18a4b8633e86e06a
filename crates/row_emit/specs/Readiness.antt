-- What is asked for where the statements of a turn are appended.
use Rattle.std.specs.Prelude.{ℕ, ◌+◌, ◌<◌, ◌≤◌, ◌^◌, List, length, IsTrue, All}
use Rattle.list_denotation.specs.Copies.{terms_of}
use Rattle.list_denotation.specs.Scopes.{all_bound}
use Rattle.list_denotation.specs.Terms.{Term}
use Rattle.state_alloc.specs.Layouts.{IsWordVariable}
use Rattle.turn_blocks.specs.Temporaries.{row_temps}
use Rattle.row_emit.specs.declared.tails.Tail.{Tail}
use Rattle.row_emit.specs.declared.tails.Tail.TheVariants as tail

-- where so many variables from `first_temp` on are temporaries, and those from `next` on were never given out
module _ (first_temp temps next : ℕ) where
  -- the words that a fold holds stand in variables that were given out; its expressions are as many at most, and read these
  -- words and those of a row alone; the temporaries are enough
  pub record FitsFold (vars : List ℕ) (width : ℕ) (es : List Term) : Type 0 where
    pub given : All (IsWordVariable first_temp temps next) vars
    pub few : length vars < 2 ^ 32
    pub within : length es ≤ length vars
    pub bound : IsTrue (all_bound (length vars + width) es)
    pub temporaries : row_temps es ≤ temps

  abbrev pub FitsTail : Tail → Type 0
  FitsTail (tail.Print width) = Unit {0}
  FitsTail (tail.Fold vars es width) = FitsFold vars.now width (terms_of es.now)
  FitsTail (tail.Mark v) = Unit {0}
  FitsTail tail.Nowhere = Unit {0}
