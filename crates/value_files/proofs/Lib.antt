pub mod WorkedItems
pub mod Digits
pub mod Runs
pub mod ItemRuns
pub mod PlacedAnswers
pub mod Passing
pub mod OneAnswer
pub mod SomeAnswer
