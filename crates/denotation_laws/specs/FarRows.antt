-- When one list of rows is as far as another.
use Rattle.std.specs.Prelude.{◌≡◌, ℕ, List, [], ◌∷◌}
use Rattle.list_denotation.specs.Rows.{Ending, Cut, Rows, Ends, Row}

-- what is cut off is as far as any list, an end is as far as itself, and a row before both changes nothing
pub data FarRows : Rows → Rows → Type 0 where
  CutOff : (u : Rows) → FarRows (Ends Cut) u
  SameEnd : (e : Ending) → FarRows (Ends e) (Ends e)
  SameRow : (r : List ℕ) {o u : Rows} → FarRows o u → FarRows (Row r o) (Row r u)

-- some rows before a list
abbrev pub rows_before : List (List ℕ) → Rows → Rows
rows_before [] rest = rest
rows_before (r ∷ rs) rest = Row r (rows_before rs rest)

-- the first is cut off, and its rows are a prefix of the other's
pub record IsCutShort (o u : Rows) : Type 0 where
  pub rows : List (List ℕ)
  pub rest : Rows
  pub cut : o ≡ rows_before rows (Ends Cut)
  pub prefix : u ≡ rows_before rows rest
