pub mod JoinedGuards
pub mod JoinedTurns
pub mod JoinedRows
pub mod JoinedParts
pub mod JoinedLeaves
pub mod StageRoom
pub mod MadeStages
