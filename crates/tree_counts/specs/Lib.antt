pub mod Counting
pub mod CountedTexts
