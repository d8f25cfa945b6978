pub mod Chains
pub mod Stores
pub mod States
pub mod Promises
mod Steps
mod Worked
