pub mod Stores
pub mod Codes
pub mod Steps
pub mod Promises
