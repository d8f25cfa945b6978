pub mod Kids
pub mod Visits
pub mod Report
