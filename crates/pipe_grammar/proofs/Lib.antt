pub mod ParsedTexts
pub mod Copies
pub mod TextReading
pub mod Slices
