pub mod Types
pub mod Definitions
pub mod Expressions
pub mod Roots
pub mod Values
pub mod Tables
