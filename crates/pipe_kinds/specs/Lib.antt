pub mod Copies
pub mod RowParts
