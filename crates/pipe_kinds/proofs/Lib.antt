pub mod ListsInLoops
pub mod PatternNames
pub mod InputNames
pub mod FoundParts
