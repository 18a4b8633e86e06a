-- Which events a text is of, and texts of events before others.
use Rattle.std.proofs.Common.{◌≡◌, ℕ, List, [], ◌∷◌, ◌++◌, refl, sym, ap, subst, ◌∙◌, append_assoc, arith}
use Rattle.std.specs.Prelude.{All}
use Rattle.std.proofs.lemmas.List.Elements.{All-head, All-tail}
use Rattle.strm_num.specs.Words.{IsWord}
use Rattle.list_denotation.specs.declared.event.Event.{Event}
use Rattle.list_denotation.specs.declared.event.Event.TheVariants.{Emit, EndRow}
use Rattle.strm_num.specs.SignedTexts.{signed_text}
use Rattle.event_texts.specs.Texts.{event_text, text_after, events_text, IsWordEvent}
use Rattle.event_texts.proofs.NumberTexts.{Stops, same_number, no_stop, word_is_number, same_word}

-- ---- which events a text is of

-- after a number comes what ends it
stops_after : (v : ℕ) (events : List Event) → Stops (text_after (Emit v) events)
stops_after v [] = tt
stops_after v (Emit w ∷ events) = omega arith
stops_after v (EndRow ∷ events) = omega arith

-- two numbers at the front of one text are of one word, and what comes behind them has one text
same_first : (v w : ℕ) (a b : List Event) → IsWord v → IsWord w
    → signed_text v ++ text_after (Emit v) a ≡ signed_text w ++ text_after (Emit w) b
    → (v ≡ w) × (text_after (Emit w) a ≡ text_after (Emit w) b)
same_first v w a b word_v word_w e =
    let same = same_number (signed_text v) (text_after (Emit v) a) (signed_text w) (text_after (Emit w) b) e
    (word_is_number v word_v) (stops_after v a) (word_is_number w word_w) (stops_after w b) in
    let one : v ≡ w = same_word v w word_v word_w same.0 in
    (one, subst (λ x. text_after (Emit x) a ≡ text_after (Emit w) b) one same.1)

same_emit : (v w : ℕ) (a b : List Event) → v ≡ w → a ≡ b → Emit v ∷ a ≡ Emit w ∷ b
same_emit v w a b p q = cc

after_end : (a b : List Event) → a ≡ b → EndRow ∷ a ≡ EndRow ∷ b
after_end a b e = cc

-- a text behind one event is of the same events
same_after : (before : Event) (a b : List Event) → All IsWordEvent a → All IsWordEvent b → text_after before a ≡ text_after before b → a ≡ b
same_after before [] [] of_a of_b e = refl
same_after (Emit u) [] (Emit w ∷ b) of_a of_b e = absurd cc
same_after EndRow [] (Emit w ∷ b) of_a of_b e =
    absurd (no_stop (signed_text w) (text_after (Emit w) b) [] (sym e) (word_is_number w (All-head IsWordEvent (Emit w) b of_b)) tt)
same_after before [] (EndRow ∷ b) of_a of_b e = absurd cc
same_after (Emit u) (Emit v ∷ a) [] of_a of_b e = absurd cc
same_after EndRow (Emit v ∷ a) [] of_a of_b e =
    absurd (no_stop (signed_text v) (text_after (Emit v) a) [] e (word_is_number v (All-head IsWordEvent (Emit v) a of_a)) tt)
same_after before (EndRow ∷ a) [] of_a of_b e = absurd cc
same_after (Emit u) (Emit v ∷ a) (Emit w ∷ b) of_a of_b e =
    let rest : signed_text v ++ text_after (Emit v) a ≡ signed_text w ++ text_after (Emit w) b = cc in
    let same = same_first v w a b (All-head IsWordEvent (Emit v) a of_a) (All-head IsWordEvent (Emit w) b of_b) rest in
    same_emit v w a b same.0 (same_after (Emit w) a b (All-tail IsWordEvent (Emit v) a of_a) (All-tail IsWordEvent (Emit w) b of_b) same.1)
same_after EndRow (Emit v ∷ a) (Emit w ∷ b) of_a of_b e =
    let same = same_first v w a b (All-head IsWordEvent (Emit v) a of_a) (All-head IsWordEvent (Emit w) b of_b) e in
    same_emit v w a b same.0 (same_after (Emit w) a b (All-tail IsWordEvent (Emit v) a of_a) (All-tail IsWordEvent (Emit w) b of_b) same.1)
same_after (Emit u) (Emit v ∷ a) (EndRow ∷ b) of_a of_b e = absurd cc
same_after EndRow (Emit v ∷ a) (EndRow ∷ b) of_a of_b e =
    absurd (no_stop (signed_text v) (text_after (Emit v) a) (10 ∷ text_after EndRow b) e (word_is_number v (All-head IsWordEvent (Emit v) a of_a)) (omega arith))
same_after (Emit u) (EndRow ∷ a) (Emit w ∷ b) of_a of_b e = absurd cc
same_after EndRow (EndRow ∷ a) (Emit w ∷ b) of_a of_b e =
    absurd (no_stop (signed_text w) (text_after (Emit w) b) (10 ∷ text_after EndRow a) (sym e) (word_is_number w (All-head IsWordEvent (Emit w) b of_b)) (omega arith))
same_after before (EndRow ∷ a) (EndRow ∷ b) of_a of_b e =
    let rest : text_after EndRow a ≡ text_after EndRow b = cc in
    after_end a b (same_after EndRow a b (All-tail IsWordEvent EndRow a of_a) (All-tail IsWordEvent EndRow b of_b) rest)

pub same_events : (a b : List Event) → All IsWordEvent a → All IsWordEvent b → events_text a ≡ events_text b → a ≡ b
same_events a b of_a of_b e = same_after EndRow a b of_a of_b e

-- ---- texts of events before others

begins_after : (before : Event) (a b : List Event) → (rest : List ℕ) × (text_after before (a ++ b) ≡ text_after before a ++ rest)
begins_after before [] b = (text_after before b, refl)
begins_after before (event ∷ a) b =
    let more = begins_after event a b in
    (more.0, ap (λ text. event_text before event ++ text) more.1 ∙ sym (append_assoc (event_text before event) (text_after event a) more.0))

pub begins : (a b : List Event) → (rest : List ℕ) × (events_text (a ++ b) ≡ events_text a ++ rest)
begins a b = begins_after EndRow a b
