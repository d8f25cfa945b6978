pub mod Faults
pub mod Choice
pub mod First
pub mod Lists
pub mod Bounded
pub mod Answers
