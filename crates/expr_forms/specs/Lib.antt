pub mod Forms
pub mod FormCopies
pub mod FormLeaves
pub mod Laws
pub mod Promises
