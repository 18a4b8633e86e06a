pub mod Depths
pub mod Reached
pub mod SeenNames
pub mod Taken
pub mod TextAnswers
