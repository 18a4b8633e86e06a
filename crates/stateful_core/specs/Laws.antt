-- The laws of the crates below that the core of a program rests on.
use Rattle.std.specs.Prelude.{ℕ}
use Rattle.denotation_laws.specs.Promises.{ArraysHaveFewItems, BoundExpressionsStayBound}
use Rattle.denotation_laws.specs.Promises.{BoundRowsStayBound, EachOfRowsIsARow}
use Rattle.denotation_laws.specs.Promises.{ExpressionsReadBoundWordsAlone}
use Rattle.denotation_laws.specs.Promises.{JoinedRowsDependOnInnerLists, RangesEndAtTheirBound}
use Rattle.denotation_laws.specs.Promises.{RangesGoUpByOne, RowValuesHaveTheirWidth}
use Rattle.denotation_laws.specs.Promises.{RowsReadBoundWordsAlone, RowsSideBySideAreARow}
use Rattle.denotation_laws.specs.Promises.{StreamsHaveRowsOfTheirWidth, SumsDependOnInnerLists}
use Rattle.denotation_laws.specs.Promises.{TypedProgramsReadTheirScopes}
use Rattle.denotation_laws.specs.Promises.{TypedStreamsHaveTheWidthOfTheirKinds}
use Rattle.denotation_laws.specs.Promises.{UndividedExpressionsHaveValues, ValuesAreWords}
use Rattle.list_denotation.specs.Promises.{TypedProgramsKeepLimits}

pub record Laws : Type 0 where
  -- of typed programs
  pub limits : TypedProgramsKeepLimits
  pub scopes : TypedProgramsReadTheirScopes
  pub widths : TypedStreamsHaveTheWidthOfTheirKinds
  -- of values and rows
  pub same_value : ExpressionsReadBoundWordsAlone
  pub same_row : RowsReadBoundWordsAlone
  pub wider : BoundExpressionsStayBound
  pub wider_row : BoundRowsStayBound
  pub undivided : UndividedExpressionsHaveValues
  pub words : ValuesAreWords
  pub row_length : RowValuesHaveTheirWidth
  pub few_items : ArraysHaveFewItems
  pub rows : StreamsHaveRowsOfTheirWidth
  pub side_by_side : RowsSideBySideAreARow
  pub each_row : EachOfRowsIsARow
  -- of inner lists
  pub joins : JoinedRowsDependOnInnerLists
  pub sums : SumsDependOnInnerLists ℕ
  -- of ranges
  pub range_goes_on : RangesGoUpByOne
  pub range_is_over : RangesEndAtTheirBound
