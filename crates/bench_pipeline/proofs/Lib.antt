pub mod Generator
pub mod Endings
pub mod Remainders
pub mod Arms
pub mod Works
