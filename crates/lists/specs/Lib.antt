pub mod Limits
pub mod Forms
pub mod Runs
pub mod Lists
pub mod Names
pub mod Peaks
