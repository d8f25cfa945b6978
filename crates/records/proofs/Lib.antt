pub mod Promises
mod Worked
