pub mod Limited
pub mod Exactness
pub mod OneOutcome
