use Rattle.event_texts.proofs.EventTexts.{begins}
use Rattle.event_texts.proofs.laws.event_texts_begin_with_those_of_prefixes.Goals as goal

pub returns : goal.returns
returns c = begins
