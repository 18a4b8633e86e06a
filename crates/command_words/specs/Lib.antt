pub mod Bindings
pub mod Commands
pub mod Bounds
