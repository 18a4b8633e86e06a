pub mod KindTests
pub mod Answered
pub mod Names
pub mod Divisions
pub mod Answers
pub mod Passes
pub mod Failing
pub mod NoRefusal
pub mod Meanings
pub mod TypedExpressions
pub mod TypedStreams
pub mod TypedPrograms
pub mod Faults
mod WorkedTrees
