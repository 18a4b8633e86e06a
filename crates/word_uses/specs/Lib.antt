pub mod Sizes
pub mod LetUses
