pub mod Lists
pub mod Signed
pub mod Truths
pub mod DigitCounts
