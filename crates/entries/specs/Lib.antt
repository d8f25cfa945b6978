pub mod Answers
pub mod Numbers
pub mod Ready
pub mod Types
pub mod Root
pub mod Order
