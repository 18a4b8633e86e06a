pub mod Refusals
pub mod Promises
