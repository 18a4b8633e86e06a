use Rattle.std.proofs.Common.{◌≡◌, ◌++◌, drop}
use Rattle.list_denotation.specs.Copies.{terms_of}
use Rattle.act_moves.specs.Renumbering.{renumber_row}
use Rattle.act_moves.specs.WordRoom.{number_in, most_in, RowReadsBelow}
use Rattle.act_moves.proofs.renumbering.renumber_row.Given as goal

-- what is made, and then what is left with its new numbers, is the row with these
abbrev pub invariant-loop-i : goal.invariant-loop-i
invariant-loop-i l = record {
  whole : terms_of l.made ++ renumber_row (number_in l.room) (terms_of (drop l.i l.es)) ≡ renumber_row (number_in l.room) (terms_of l.es);
  below : RowReadsBelow (most_in l.room) (terms_of (drop l.i l.es));
}
