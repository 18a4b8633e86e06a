use Rattle.denotation_laws.proofs.ScopedValues.{undivided_value, undivided_row}
use Rattle.denotation_laws.proofs.laws.undivided_expressions_have_values.Goals as goal

pub returns : goal.returns
returns c = record { expressions = undivided_value; rows = undivided_row }
