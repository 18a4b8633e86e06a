use Rattle.expr_constants.proofs.KnownValues.{constant_value, constant_word}
use Rattle.expr_constants.proofs.laws.constants_are_values.Goals as goal

pub returns-clause-value : goal.returns-clause-value
returns-clause-value c = constant_value

pub returns-clause-words : goal.returns-clause-words
returns-clause-words c = constant_word c.laws_below.ensures
