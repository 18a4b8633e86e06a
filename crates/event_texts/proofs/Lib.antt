pub mod NumberTexts
pub mod EventTexts
pub mod WorkedTexts
