pub mod FormReading
pub mod TokenClassCopies
pub mod ReaderState
pub mod Foldings
