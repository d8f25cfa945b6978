pub mod Structure
pub mod Lists
pub mod Table
pub mod Buckets
pub mod Words
pub mod Tree
pub mod Facts
pub mod Types
