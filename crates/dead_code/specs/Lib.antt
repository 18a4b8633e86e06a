pub mod Ends
pub mod Needs
pub mod Live
pub mod FirstZeros
pub mod LiveRoutines
pub mod Promises
