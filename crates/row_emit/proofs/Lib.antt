pub mod Variables
pub mod Appends
pub mod BlockSizes
pub mod SetWords
pub mod PrintedRows
