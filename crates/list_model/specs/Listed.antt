-- What a list of rows in the code stands for.
use Rattle.std.specs.Prelude.{ℕ, List, [], ◌∷◌}
use Rattle.list_model.specs.declared.rows.Ending.{Ending}
use Rattle.list_model.specs.declared.rows.Ending.TheVariants as code
use Rattle.list_denotation.specs.Values.{Trap}
use Rattle.list_denotation.specs.Rows.{Ending as RowsEnding, End, Cut, Broken, Rows, Ends, Row}

abbrev pub ending_of : Ending → RowsEnding
ending_of code.End = End
ending_of code.Cut = Cut
ending_of code.Trap = Broken Trap

-- these rows before others
abbrev pub onto : List (List ℕ) → Rows → Rows
onto [] rest = rest
onto (r ∷ rows) rest = Row r (onto rows rest)

abbrev pub listed : List (List ℕ) → Ending → Rows
listed rows e = onto rows (Ends (ending_of e))
