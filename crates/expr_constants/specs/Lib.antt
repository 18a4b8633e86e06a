pub mod Constants
pub mod Simple
pub mod Laws
pub mod Promises
