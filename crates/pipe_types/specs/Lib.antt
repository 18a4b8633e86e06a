pub mod Copies
pub mod Room
pub mod StageForms
