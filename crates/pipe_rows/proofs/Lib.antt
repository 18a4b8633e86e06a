pub mod ExpressionSteps
pub mod FirstTokens
pub mod FormReading
