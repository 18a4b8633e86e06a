pub mod Renumbering
pub mod WordRoom
pub mod Flags
pub mod Halts
