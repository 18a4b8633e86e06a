pub mod Taking
pub mod DepthsSoFar
pub mod NamesSoFar
pub mod ReachedSoFar
pub mod BothSoFar
pub mod TextFaults
