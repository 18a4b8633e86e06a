pub mod Places
pub mod Absences
pub mod Positions
pub mod TakenInputs
pub mod Bounds
pub mod Untouched
