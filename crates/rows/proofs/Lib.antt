pub mod RowLaws
pub mod Promises
pub mod Inside
