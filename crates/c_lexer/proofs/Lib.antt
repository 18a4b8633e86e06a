pub mod Digits
pub mod CommentEnds
pub mod NumberTokens
pub mod Runs
pub mod SymbolPrefixes
pub mod Firsts
pub mod SlashPlaces
pub mod Passing
