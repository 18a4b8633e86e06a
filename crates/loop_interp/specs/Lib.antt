pub mod Values
pub mod Sizes
pub mod Output
pub mod Answers
pub mod Runs
