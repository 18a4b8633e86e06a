-- The laws of the crates below that machines rest on.
use Rattle.denotation_laws.specs.Promises.{ExpressionsReadBoundWordsAlone}
use Rattle.denotation_laws.specs.Promises.{FarRowsIsReflexive, FarRowsIsTransitive}
use Rattle.denotation_laws.specs.Promises.{JoinedRowsKeepFarRows}
use Rattle.denotation_laws.specs.Promises.{ZippedRowsKeepFarRows}
use Rattle.machine_turns.specs.Promises.{InnerMachinesGoNoFurther, InnerMachinesReachJoinedRows}
use Rattle.machine_turns.specs.Promises.{MachinesReachTheirRows, MachinesSideBySideGoNoFurther}
use Rattle.machine_turns.specs.Promises.{MachinesSideBySideReachZippedRows, ReachedRowsAreAsFar}
use Rattle.machine_turns.specs.Promises.{StagesKeepFarRows}
use Rattle.stage_machines.specs.Promises.{JoinedMachinesReachRows, JoinedPartsAddNoWords}
use Rattle.stage_machines.specs.Promises.{JoinedPartsAreSound, JoinedPartsHaveLeavesOfBoth}
use Rattle.stage_machines.specs.Promises.{JoinedPartsNeedTemporariesOfBoth, StagesJoinMachines}
use Rattle.stateful_core.specs.Promises.{CoreRowsHaveTheirWidth}

pub record Laws : Type 0 where
  pub far_itself : FarRowsIsReflexive
  pub far_through : FarRowsIsTransitive
  pub far_joined : JoinedRowsKeepFarRows
  pub far_zipped : ZippedRowsKeepFarRows
  -- of machines, alone and with another one, and of what a stage makes of rows
  pub machine_far : ReachedRowsAreAsFar
  pub machine_reaches : MachinesReachTheirRows
  pub stage_far : StagesKeepFarRows
  pub nest_no_further : InnerMachinesGoNoFurther
  pub nest_reaches : InnerMachinesReachJoinedRows
  pub zip_no_further : MachinesSideBySideGoNoFurther
  pub zip_reaches : MachinesSideBySideReachZippedRows
  -- of a stage and the machine below it, in one
  pub stage_rows : StagesJoinMachines
  pub stage_reaches : JoinedMachinesReachRows
  pub stage_sound : JoinedPartsAreSound
  pub stage_words : JoinedPartsAddNoWords
  pub stage_leaves : JoinedPartsHaveLeavesOfBoth
  pub stage_temps : JoinedPartsNeedTemporariesOfBoth
  -- of rows, and of expressions over longer scopes
  pub widths : CoreRowsHaveTheirWidth
  pub bound_value : ExpressionsReadBoundWordsAlone
