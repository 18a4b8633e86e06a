pub mod Limits
pub mod TypedKinds
pub mod ZipOfNested
pub mod WorkedRows
pub mod TypedLeaves
pub mod MadeRows
pub mod CostsOfNodes
pub mod UndividedRows
