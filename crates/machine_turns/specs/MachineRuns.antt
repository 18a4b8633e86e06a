-- What a machine reaches in so many turns, over states of any type.
use Rattle.std.specs.Prelude.{◌≡◌, ℕ, suc, List}
use Rattle.list_denotation.specs.Rows.{End, Cut, Broken, Rows, Ends, Row}
use Rattle.list_denotation.specs.Values.{Fault}
use Rattle.stateful_core.specs.Turns.{Turn, Gives, Skips, Stops, Breaks}

module _ {S : Type 0} (guard : S → ℕ) (turn : S → Turn S) where
  -- the rows come from a state in so many turns, with one turn of these left for what ends them
  pub data Runs : Rows → S → ℕ → Type 0 where
    pauses : (s : S) (w : ℕ) → Runs (Ends Cut) s (suc w)
    ends : (s : S) (w : ℕ) → guard s ≡ 0 → Runs (Ends End) s (suc w)
    stops : (s : S) (w g : ℕ) → guard s ≡ suc g → turn s ≡ Stops → Runs (Ends End) s (suc w)
    breaks : (s : S) (w g : ℕ) (f : Fault) → guard s ≡ suc g → turn s ≡ Breaks f → Runs (Ends (Broken f)) s (suc w)
    skips : (s : S) (w g : ℕ) (t : S) (rows : Rows) → guard s ≡ suc g → turn s ≡ Skips t → Runs rows t w → Runs rows s (suc w)
    gives : (s : S) (w g : ℕ) (r : List ℕ) (t : S) (rows : Rows) → guard s ≡ suc g → turn s ≡ Gives r t → Runs rows t w → Runs (Row r rows) s (suc w)
