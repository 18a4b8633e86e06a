pub mod Printing
pub mod TreeTokens
pub mod Spellings
pub mod WithoutOffsets
pub mod Promises
