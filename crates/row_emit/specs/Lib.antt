pub mod Settings
pub mod Placed
pub mod TurnCopies
pub mod Readiness
pub mod Promises
