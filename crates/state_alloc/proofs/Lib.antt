pub mod Distinctness
pub mod Places
pub mod Scopes
