-- The plain copies of what is done with rows and where a stream stops.
use Rattle.std.specs.Prelude.{ℕ, List, []}
use Rattle.list_denotation.specs.Copies.{terms_of}
use Rattle.loop_ir.specs.Statements.{Block}
use Rattle.turn_blocks.specs.Consumers.{print_tail, fold_tail, print_stop, fold_stop}
use Rattle.turn_blocks.specs.Pieces as pieces
use Rattle.turn_blocks.specs.Pieces.{mark, nowhere}
use Rattle.row_emit.specs.declared.tails.Stop.{Stop}
use Rattle.row_emit.specs.declared.tails.Stop.TheVariants as stop
use Rattle.row_emit.specs.declared.tails.Tail.{Tail}
use Rattle.row_emit.specs.declared.tails.Tail.TheVariants as tail

-- the statements that end the run
abbrev pub stop_of : Stop → Block
stop_of stop.Print = print_stop
stop_of (stop.Fold vars) = fold_stop vars.now

-- the variables that they print
abbrev pub stop_vars : Stop → List ℕ
stop_vars stop.Print = []
stop_vars (stop.Fold vars) = vars.now

-- what is done with a row, where the temporaries are those from t on
abbrev pub tail_of : ℕ → Tail → pieces.Tail
tail_of t (tail.Print width) = print_tail width
tail_of t (tail.Fold vars next width) = fold_tail vars.now t width (terms_of next.now)
tail_of t (tail.Mark v) = mark v
tail_of t tail.Nowhere = nowhere

-- the words of the row
abbrev pub tail_width : Tail → ℕ
tail_width (tail.Print width) = width
tail_width (tail.Fold vars next width) = width
tail_width (tail.Mark v) = 0
tail_width tail.Nowhere = 0
