pub mod Leads
pub mod Cycles
pub mod Walks
pub mod Graph
pub mod Skips
pub mod Search
pub mod Order
