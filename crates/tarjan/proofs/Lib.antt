pub mod Items
pub mod Asks
pub mod Takes
pub mod Arrays
pub mod Leaves
pub mod Follows
pub mod Sorts
