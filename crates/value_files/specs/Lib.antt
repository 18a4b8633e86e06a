pub mod Bytes
pub mod Numbers
pub mod Items
pub mod Files
pub mod Steps
pub mod Promises
