pub mod Resolving
pub mod Plans
pub mod Unifying
pub mod Promises
mod Worked
