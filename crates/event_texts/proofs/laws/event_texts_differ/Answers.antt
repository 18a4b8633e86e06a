use Rattle.event_texts.proofs.EventTexts.{same_events}
use Rattle.event_texts.proofs.laws.event_texts_differ.Goals as goal

pub returns : goal.returns
returns c = same_events
