pub mod Appends
pub mod LeafTests
