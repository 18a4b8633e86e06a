pub mod Appends
pub mod Comparisons
pub mod Divisions
pub mod LeafTests
pub mod Remainders
pub mod Opposites
pub mod Sizes
