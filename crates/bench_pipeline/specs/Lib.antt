pub mod Generator
pub mod Pipelines
pub mod Texts
pub mod Promises
