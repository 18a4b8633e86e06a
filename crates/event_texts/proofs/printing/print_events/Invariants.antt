use Rattle.std.proofs.Common.{◌≡◌, ◌++◌, drop}
use Rattle.event_texts.specs.Texts.{events_text, text_after}
use Rattle.event_texts.proofs.printing.print_events.Given as goal

-- the text that is there and that of the other events are the whole
abbrev pub invariant-loop-event : goal.invariant-loop-event
invariant-loop-event l = l.text.items ++ text_after l.before (drop l.event-index l.events) ≡ events_text l.events
