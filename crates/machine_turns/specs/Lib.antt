pub mod MachineRuns
pub mod AlikeTurns
pub mod StageTurns
pub mod NestTurns
pub mod ZipTurns
pub mod Promises
