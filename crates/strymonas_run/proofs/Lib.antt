pub mod BenchTexts
pub mod InputNames
pub mod JobAnswers
pub mod StatusConditions
pub mod WordsBehind
