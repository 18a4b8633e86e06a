-- The text that a run writes: what its events are as characters, one behind another.
use Rattle.std.specs.Prelude.{ℕ, List, [], ◌∷◌, ◌++◌, codes}
use Rattle.strm_num.specs.Words.{IsWord}
use Rattle.strm_num.specs.SignedTexts.{signed_text}
use Rattle.list_denotation.specs.declared.event.Event.{Event}
use Rattle.list_denotation.specs.declared.event.Event.TheVariants.{Emit, EndRow}

-- the text of an event, by the event before it: a blank stands between two numbers
abbrev pub event_text : Event → Event → List ℕ
event_text (Emit v) (Emit w) = codes " " ++ signed_text w
event_text EndRow (Emit w) = signed_text w
event_text before EndRow = codes "\n"

-- the text of events, by the event before them
abbrev pub text_after : Event → List Event → List ℕ
text_after before [] = []
text_after before (event ∷ events) = event_text before event ++ text_after event events

-- the text of a run's events: at the start a row begins, as it does after the end of a row
abbrev pub events_text : List Event → List ℕ
events_text events = text_after EndRow events

-- an event of a word
abbrev pub IsWordEvent : Event → Type 0
IsWordEvent (Emit w) = IsWord w
IsWordEvent EndRow = Unit {0}
