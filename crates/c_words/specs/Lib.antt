pub mod Words
pub mod SameTokens
pub mod Promises
