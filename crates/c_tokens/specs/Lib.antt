pub mod Characters
pub mod Symbols
pub mod Pieces
pub mod Cutting
pub mod Promises
