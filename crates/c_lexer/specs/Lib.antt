pub mod Comments
pub mod Symbols
pub mod Numbers
pub mod Names
pub mod Prefixes
pub mod TokensFrom
