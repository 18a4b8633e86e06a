pub mod WordTexts
