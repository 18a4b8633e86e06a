pub mod SameTokens
pub mod WordTexts
pub mod OneToken
pub mod SomeToken
