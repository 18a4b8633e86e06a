pub mod RowLists
pub mod SourceRows
pub mod SourceBounds
pub mod StageRows
pub mod InnerRows
pub mod EventSteps
