pub mod ActCopies
pub mod Growth
pub mod ReadyActs
pub mod ActPieces
pub mod Puts
