pub mod WholeLaws
pub mod Promises
pub mod Longer
