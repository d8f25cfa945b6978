pub mod Notes
pub mod Words
