-- What is seen of a run, and of a pipeline at a bound.
use Rattle.std.specs.Prelude.{ℕ, List, [], ◌∷◌, ◌++◌}
use Rattle.list_denotation.specs.declared.event.Event.{Event}
use Rattle.list_denotation.specs.declared.event.Event.TheVariants.{Emit, EndRow}
use Rattle.list_denotation.specs.declared.input.Input.{Input}
use Rattle.list_denotation.specs.Terms.{Finish, Fold, Print, Pipeline}
use Rattle.list_denotation.specs.Values.{Fault, Got, Is, Fails, row_value}
use Rattle.list_denotation.specs.Rows.{Ending, End, Cut, Broken, Rows, Ends, Row}
use Rattle.list_denotation.specs.Denotation.{denotation}

-- how a run stands: it is done, it failed, or it is still going
pub data Standing : Type 0 where
  Done Going : Standing
  Failed : Fault → Standing

pub record Seen : Type 0 where
  pub events : List Event
  pub standing : Standing

abbrev pub standing_of : Ending → Standing
standing_of End = Done
standing_of Cut = Going
standing_of (Broken f) = Failed f

-- the events of a row, and others after them
abbrev pub row_events : List ℕ → List Event → List Event
row_events [] rest = EndRow ∷ rest
row_events (x ∷ row) rest = Emit x ∷ row_events row rest

-- what is seen where each row is printed
abbrev pub print_rows : Rows → Seen
print_rows (Ends e) = record { events = []; standing = standing_of e }
print_rows (Row r rest) = record { events = row_events r (print_rows rest).events; standing = (print_rows rest).standing }

-- what is seen of a state where a stream ends like this: it is printed at the end alone
abbrev pub state_at : Ending → List ℕ → Seen
state_at End state = record { events = row_events state []; standing = Done }
state_at Cut state = record { events = []; standing = Going }
state_at (Broken f) state = record { events = []; standing = Failed f }

-- what is seen from a state on, and a fault where there is none
abbrev pub unless_failed : Got (List ℕ) → (List ℕ → Seen) → Seen
unless_failed (Is s) go = go s
unless_failed (Fails f) go = record { events = []; standing = Failed f }

-- what is seen where the rows are folded into a state
abbrev pub fold_rows : (List ℕ → List ℕ → Got (List ℕ)) → List ℕ → Rows → Seen
fold_rows f state (Ends e) = state_at e state
fold_rows f state (Row r rest) = unless_failed (f state r) (λ s. fold_rows f s rest)

abbrev pub finish_rows : Finish → List Input → Rows → Seen
finish_rows (Fold seed next) inputs rows =
    unless_failed (row_value seed [] inputs) (λ s. fold_rows (λ state r. row_value next (state ++ r) inputs) s rows)
finish_rows Print inputs rows = print_rows rows

-- the observation of a pipeline at n pulls
abbrev pub observation : Pipeline → List Input → ℕ → Seen
observation p inputs n = finish_rows p.terminal inputs (denotation p.stream [] inputs n)
