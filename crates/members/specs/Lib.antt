pub mod Places
pub mod Types
pub mod Lookup
pub mod Marks
pub mod Field
