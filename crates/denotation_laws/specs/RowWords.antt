-- Rows of words, all of one width.
use Rattle.std.specs.Prelude.{◌≡◌, ◌⊎◌, ℕ, List, length, All}
use Rattle.strm_num.specs.Words.{IsWord}
use Rattle.list_denotation.specs.Rows.{Rows, Ends, Row}

-- this many words: a row, a state, or the bound words of a scope
pub record IsRow (n : ℕ) (row : List ℕ) : Type 0 where
  pub width : length row ≡ n
  pub words : All IsWord row

-- each row of a list is so
abbrev pub EachRow : (List ℕ → Type 0) → Rows → Type 0
EachRow P (Ends e) = Unit {0}
EachRow P (Row r rest) = P r × EachRow P rest

abbrev pub AreRows : ℕ → Rows → Type 0
AreRows n rows = EachRow (IsRow n) rows

-- it is one of the rows of a list
abbrev pub IsRowOf : List ℕ → Rows → Type 0
IsRowOf r (Ends e) = ⊥
IsRowOf r (Row s rest) = (r ≡ s) ⊎ IsRowOf r rest
