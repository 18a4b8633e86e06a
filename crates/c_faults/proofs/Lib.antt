pub mod LeavesOfTokens
pub mod TokensOfLeaves
pub mod DeclaredTokens
pub mod ProgramSizes
pub mod VariableCounts
pub mod FirstFaults
pub mod OneAnswer
