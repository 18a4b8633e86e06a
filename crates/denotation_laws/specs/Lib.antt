pub mod RowWords
pub mod Widths
pub mod FarRows
pub mod StreamScopes
pub mod Promises
