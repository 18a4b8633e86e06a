pub mod Emission
pub mod CoreCondition
pub mod SeenRows
pub mod Laws
pub mod EmissionRoom
