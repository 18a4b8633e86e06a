pub mod InfixOps
pub mod Machine
pub mod Depths
pub mod Continuations
pub mod Nesting
pub mod Promises
