pub mod Multiples
pub mod Lowering
pub mod Costs
pub mod PlainWords
pub mod Scopes
pub mod Contract
pub mod Laws
pub mod Promises
