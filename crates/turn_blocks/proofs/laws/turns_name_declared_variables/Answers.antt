use Rattle.std.specs.Prelude.{None}
use Rattle.turn_blocks.proofs.PieceSizes.{acts_grow}
use Rattle.turn_blocks.proofs.TurnNames.{turn_names, turn_constants, turn_few}
use Rattle.turn_blocks.proofs.laws.turns_name_declared_variables.Goals as goal

pub returns-clause-names : goal.returns-clause-names
returns-clause-names c = turn_names c.laws_below.ensures

pub returns-clause-constants : goal.returns-clause-constants
returns-clause-constants c = turn_constants c.laws_below.ensures

pub returns-clause-few : goal.returns-clause-few
returns-clause-few c = turn_few

pub returns-clause-grows : goal.returns-clause-grows
returns-clause-grows c = λ scope states t next rows tail stop acts grows. acts_grow scope states t stop tail None acts rows next grows
