pub mod Counting
pub mod Counts
pub mod Finding
pub mod Promises
pub mod Small
mod Worked
