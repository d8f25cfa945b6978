pub mod Ready
pub mod Promises
pub mod Examples
