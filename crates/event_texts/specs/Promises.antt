-- What is promised of the definitions. Each statement has one name, which its law and those who stand on it cite.
use Rattle.std.specs.Prelude.{◌≡◌, ℕ, List, ◌++◌, All}
use Rattle.list_denotation.specs.declared.event.Event.{Event}
use Rattle.event_texts.specs.Texts.{IsWordEvent, events_text}

-- Different events have different texts, where each `Emit` is of a word.
abbrev pub EventTextsDiffer : Type 0
EventTextsDiffer =
    (a b : List Event) → All IsWordEvent a → All IsWordEvent b
    → events_text a ≡ events_text b → a ≡ b

-- The text of events begins with the text of the first of them, however many these are.
abbrev pub EventTextsBeginWithThoseOfPrefixes : Type 0
EventTextsBeginWithThoseOfPrefixes =
    (a b : List Event) → (rest : List ℕ) × (events_text (a ++ b) ≡ events_text a ++ rest)
