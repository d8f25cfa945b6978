pub mod KidLaws
pub mod Writing
pub mod Whole
