pub mod Arrays
pub mod Pairs
pub mod Flat
pub mod Reading
pub mod Chaining
pub mod Walking
pub mod Spots
pub mod Noting
pub mod Forest
pub mod Reps
pub mod Equal
pub mod Keys
pub mod Views
pub mod Building
pub mod TypeCodes
pub mod Promises
mod Counting
