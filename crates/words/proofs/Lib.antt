pub mod Noting
pub mod Fields
pub mod Writing
pub mod Promises
