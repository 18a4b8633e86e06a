pub mod Layouts
pub mod Frames
pub mod Promises
