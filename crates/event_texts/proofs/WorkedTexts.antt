-- Small texts of events.
use Rattle.std.proofs.Common.{◌≡◌, ◌^◌, ◌-◌, [], ◌∷◌, codes, refl}
use Rattle.std.specs.Fmt.{digits}
use Rattle.list_denotation.specs.declared.event.Event.TheVariants.{Emit, EndRow}
use Rattle.event_texts.specs.Texts.{events_text}

-- no events write nothing
no_events : events_text [] ≡ []
no_events = refl

-- a row of two numbers
two_numbers : events_text (Emit 7 ∷ Emit (2 ^ 64 - 1) ∷ EndRow ∷ []) ≡ codes "7 -1\n"
unfolding digits
two_numbers = refl

-- rows of one number, of none and of two, and a number of a row that hasn't ended
rows : events_text (Emit 20 ∷ EndRow ∷ EndRow ∷ Emit 0 ∷ Emit 10 ∷ EndRow ∷ Emit 4 ∷ []) ≡ codes "20\n\n0 10\n4"
unfolding digits
rows = refl

-- the greatest and the least signed value
extremes : events_text (Emit (2 ^ 63 - 1) ∷ Emit (2 ^ 63) ∷ []) ≡ codes "9223372036854775807 -9223372036854775808"
unfolding digits
extremes = refl
