-- What is seen of a terminal that takes rows one by one.
use Rattle.std.specs.Prelude.{List, ◌++◌, [], ℕ}
use Rattle.list_denotation.specs.declared.input.Input.{Input}
use Rattle.list_denotation.specs.Observation.{Done, Going, Failed, Seen}
use Rattle.list_denotation.specs.Rows.{Ending, End, Cut, Broken, Rows, Ends, Row}
use Rattle.list_denotation.specs.Terms.{Finish, Fold, Print}
use Rattle.stateful_core.specs.WordValues.{word_values}
use Rattle.turn_blocks.specs.Consumers.{print_taker, fold_taker}
use Rattle.turn_blocks.specs.TurnContract.{Taken, Holds, Refuses, Taker}

-- what it holds is shown where the rows come to their end
abbrev pub ending_seen : Taker → List ℕ → Ending → Seen
ending_seen c held End = record { events = c.ending held; standing = Done }
ending_seen c held Cut = record { events = []; standing = Going }
ending_seen c held (Broken f) = record { events = []; standing = Failed f }

-- the events of a row, and what is seen from what is held then
abbrev pub fed_seen : Taken → (List ℕ → Seen) → Seen
fed_seen (Holds events held) go = record { events = events ++ (go held).events; standing = (go held).standing }
fed_seen (Refuses f) go = record { events = []; standing = Failed f }

abbrev pub seen_rows : Taker → List ℕ → Rows → Seen
seen_rows c held (Ends e) = ending_seen c held e
seen_rows c held (Row r rest) = fed_seen (c.feed held r) (λ next. seen_rows c next rest)

-- a terminal that holds words in these variables, and the words that it holds first
abbrev pub finish_taker : Finish → List ℕ → List Input → Taker
finish_taker (Fold seed next) vars inputs = fold_taker vars next inputs
finish_taker Print vars inputs = print_taker

abbrev pub first_held : Finish → List Input → List ℕ
first_held (Fold seed next) inputs = word_values seed [] inputs
first_held Print inputs = []
