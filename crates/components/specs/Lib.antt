pub mod Walks
pub mod Found
pub mod DepthFirst
pub mod Tarjan
pub mod Invariant
pub mod Answers
pub mod Account
