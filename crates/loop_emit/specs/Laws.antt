-- The laws of the crates below that the emission rests on.
use Rattle.denotation_laws.specs.Promises.{ArraysHaveFewItems, BoundExpressionsStayBound}
use Rattle.dead_code.specs.Promises.{DeadCodeDoesNothing, LiveProgramsAreNoLarger}
use Rattle.denotation_laws.specs.Promises.{FarIsTransitive, IntInputsAreWords, ItemsAreWords}
use Rattle.denotation_laws.specs.Promises.{NoObservationIsStuck}
use Rattle.denotation_laws.specs.Promises.{TerminalsKeepFar, TypedProgramsReadTheirScopes}
use Rattle.denotation_laws.specs.Promises.{TypedStreamsHaveTheWidthOfTheirKinds}
use Rattle.denotation_laws.specs.Promises.{UndividedExpressionsHaveValues}
use Rattle.expr_lower.specs.Promises.{BareTestsNameTheirLeaves, ConditionsAreLowered}
use Rattle.expr_lower.specs.Promises.{FreshVariablesAreTargets, NamedScopesNameWords}
use Rattle.expr_lower.specs.Promises.{ScopesInPlaceHoldWordsInPlace, TemporariesAreFew}
use Rattle.expr_lower.specs.Promises.{ValuesAreLowered}
use Rattle.list_denotation.specs.Promises.{TypedProgramsHaveRowsWithKinds, TypedProgramsKeepLimits}
use Rattle.loop_ir.specs.Promises.{RunsGrow}
use Rattle.turn_blocks.specs.Promises.{ActsTakeLaterVariables, FoldingHasWordConstants}
use Rattle.turn_blocks.specs.Promises.{FoldingNamesItsWords, FoldingStops, FoldingTakesFewVariables}
use Rattle.turn_blocks.specs.Promises.{FoldingTakesRows, PrintingHasWordConstants, PrintingNamesItsRow}
use Rattle.turn_blocks.specs.Promises.{PrintingStops, PrintingTakesNoVariables, PrintingTakesRows}
use Rattle.turn_blocks.specs.Promises.{TurnsAreLowered, TurnsHaveWordConstants}
use Rattle.turn_blocks.specs.Promises.{TurnsNameDeclaredVariables, TurnsTakeFewVariables}

pub record Laws : Type 0 where
  -- of typed programs
  pub limits : TypedProgramsKeepLimits
  pub kinds : TypedProgramsHaveRowsWithKinds
  pub scopes : TypedProgramsReadTheirScopes
  pub widths : TypedStreamsHaveTheWidthOfTheirKinds
  -- of scopes, of values, and of inputs that fit
  pub wider : BoundExpressionsStayBound
  pub undivided_value : UndividedExpressionsHaveValues
  pub ints : IntInputsAreWords
  pub items : ItemsAreWords
  pub few_items : ArraysHaveFewItems
  -- of what is as far as another
  pub far_transitive : FarIsTransitive
  pub far_finished : TerminalsKeepFar
  pub far_run : RunsGrow
  -- of the statements of expressions
  pub temporaries : TemporariesAreFew
  pub values : ValuesAreLowered
  pub conditions : ConditionsAreLowered
  pub target : FreshVariablesAreTargets
  pub in_place : ScopesInPlaceHoldWordsInPlace
  pub names : NamedScopesNameWords
  pub bare_tests : BareTestsNameTheirLeaves
  -- of the statements of a turn
  pub turns : TurnsAreLowered
  pub turn_names : TurnsNameDeclaredVariables
  pub turn_constants : TurnsHaveWordConstants
  pub turn_few : TurnsTakeFewVariables
  pub turn_grows : ActsTakeLaterVariables
  -- of what is done with rows
  pub prints : PrintingTakesRows
  pub print_stops : PrintingStops
  pub folds : FoldingTakesRows
  pub fold_stops : FoldingStops
  pub print_few : PrintingTakesNoVariables
  pub fold_few : FoldingTakesFewVariables
  pub print_names : PrintingNamesItsRow
  pub fold_names : FoldingNamesItsWords
  pub print_constants : PrintingHasWordConstants
  pub fold_constants : FoldingHasWordConstants
  -- of loop programs without their dead code
  pub never_stuck : NoObservationIsStuck
  pub dead_code : DeadCodeDoesNothing
  pub no_larger : LiveProgramsAreNoLarger
