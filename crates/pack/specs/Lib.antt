pub mod Answer
pub mod Read
pub mod Counts
pub mod Header
pub mod Rows
pub mod Lists
pub mod Named
pub mod Kinds
