pub mod Covering
pub mod Promises
mod Worked
