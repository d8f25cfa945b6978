pub mod Nodes
pub mod Notes
pub mod Hops
pub mod Trees
