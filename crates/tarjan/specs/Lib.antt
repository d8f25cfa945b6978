pub mod Values
pub mod Search
