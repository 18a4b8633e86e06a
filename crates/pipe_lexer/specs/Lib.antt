pub mod Characters
pub mod Keywords
pub mod Symbols
pub mod Pieces
pub mod Prefixes
pub mod Lexing
pub mod Steps
pub mod Promises
