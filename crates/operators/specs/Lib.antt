pub mod Names
pub mod Operators
