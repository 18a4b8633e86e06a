pub mod Phrases
pub mod PhraseCopies
pub mod Results
pub mod Laws
pub mod Promises
