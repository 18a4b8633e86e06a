-- The laws of the crates below that stages over machines rest on.
use Rattle.denotation_laws.specs.Promises.{BoundRowsStayBound, ExpressionsReadBoundWordsAlone}
use Rattle.denotation_laws.specs.Promises.{UndividedExpressionsHaveValues}
use Rattle.machine_turns.specs.Promises.{StagesMakeTheirRowsOfMachines, StagesMakeTheirRowsOfStages}
use Rattle.machine_turns.specs.Promises.{StagesReachTheirRows}
use Rattle.stateful_core.specs.Promises.{CoreRowsHaveTheirWidth}

pub record Laws : Type 0 where
  -- of expressions over longer scopes, and without division
  pub bound_value : ExpressionsReadBoundWordsAlone
  pub bound_within : BoundRowsStayBound
  pub undivided_value : UndividedExpressionsHaveValues
  -- of rows
  pub widths : CoreRowsHaveTheirWidth
  pub stage_rows_over : StagesMakeTheirRowsOfMachines
  pub stage_rows_through : StagesMakeTheirRowsOfStages
  pub stage_reaches : StagesReachTheirRows
