-- What is put to a sink through a buffer: the pending text is what was written and not yet put.
use Rattle.std.specs.Prelude.{◌≡◌, ℕ, List, ◌++◌, Bool, true, false, [], codes, Option, Result, Ok, Err}
use Rattle.list_denotation.specs.declared.event.Event.{Event}
use Rattle.list_denotation.specs.declared.event.Event.TheVariants.{Emit, EndRow}
use Rattle.strm_io.specs.Writing.{Appends}
use Rattle.strm_io.specs.declared.appending.WriteFault.{WriteFault}

-- with this text more, some of what was pending and of the text is put, and the rest is pending
pub record Adds (written written' : Option (List ℕ)) (pending pending' text : List ℕ) : Type 0 where
  pub put : List ℕ
  pub appended : Appends written written' put
  pub same : put ++ pending' ≡ pending ++ text

-- what was put is a prefix of what was pending and of the text
pub record IsCut (written written' : Option (List ℕ)) (pending text : List ℕ) : Type 0 where
  pub put : List ℕ
  pub rest : List ℕ
  pub appended : Appends written written' put
  pub same : put ++ rest ≡ pending ++ text

-- the text is added, or cut where a write failed
abbrev pub Writes : Option (List ℕ) → Option (List ℕ) → List ℕ → List ℕ → List ℕ → Result (Unit {0}) WriteFault → Type 0
Writes written written' pending pending' text (Ok done) = Adds written written' pending pending' text
Writes written written' pending pending' text (Err fault) = IsCut written written' pending text

-- an event that leaves a row open or not, as the one before does
abbrev pub event_before : Bool → Event
event_before true = Emit 0
event_before false = EndRow

-- the blank between two numbers of a row
abbrev pub blank_text : Bool → List ℕ
blank_text true = codes " "
blank_text false = []
