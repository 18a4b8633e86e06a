pub mod MachineParts
pub mod MachineCopies
pub mod JoinedGuards
pub mod StageMachine
pub mod JoinedStates
pub mod Laws
pub mod Promises
