use Rattle.expr_phrases.proofs.LeafTests.{opposite_leaves}
use Rattle.expr_phrases.proofs.Opposites.{minus_value, opposite_is}
use Rattle.expr_phrases.proofs.laws.opposites_negate.Goals as goal

pub returns-clause-words : goal.returns-clause-words
returns-clause-words c = minus_value

pub returns-clause-tests : goal.returns-clause-tests
returns-clause-tests c = opposite_is

pub returns-clause-leaves : goal.returns-clause-leaves
returns-clause-leaves c = opposite_leaves
