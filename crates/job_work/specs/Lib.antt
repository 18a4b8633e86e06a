pub mod Working
pub mod Ways
