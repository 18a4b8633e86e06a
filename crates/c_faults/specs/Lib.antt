pub mod Brackets
pub mod Undeclared
pub mod Answers
pub mod Promises
