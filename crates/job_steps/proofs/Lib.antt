mod OneEnd
mod OneReading
mod EachRefusal
mod PipelineFiles
mod OneWork
mod RunsAndLists
mod ValueWords
mod InputsFit
pub mod TakenSteps
mod NeverFailing
mod Endings
pub mod Benches
