pub mod Codes
pub mod Cells
pub mod Answers
