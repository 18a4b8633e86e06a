pub mod HeldRows
pub mod NestMachine
pub mod ZipMachine
pub mod LinearMachine
pub mod MachinePromise
pub mod Laws
pub mod Promises
