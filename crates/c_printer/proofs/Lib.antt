pub mod PrintedText
pub mod ReadText
