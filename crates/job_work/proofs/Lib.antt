pub mod CTexts
pub mod DoneWork
pub mod Benches
