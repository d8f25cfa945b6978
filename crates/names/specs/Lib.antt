pub mod Tally
pub mod Index
pub mod Filling
