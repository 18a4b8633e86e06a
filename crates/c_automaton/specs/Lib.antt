pub mod Phrases
pub mod Automaton
pub mod Runs
pub mod Promises
