pub mod Adding
pub mod Writing
pub mod Following
pub mod Turns
pub mod Steps
pub mod Endings
