pub mod Trees
pub mod TreeCopies
pub mod Tokens
pub mod Operators
pub mod Grammar
pub mod Bounds
pub mod Texts
pub mod Parsing
