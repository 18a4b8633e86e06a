use Rattle.stateful_core.proofs.ExactTurns.{exact_never}
use Rattle.stateful_core.proofs.laws.exact_acts_skip_no_turn.Goals as goal

pub returns : goal.returns
returns c = λ acts item env inputs s r t h e. exact_never env inputs acts item s r t h e
