pub mod Choice
pub mod Told
pub mod First
pub mod Tests
pub mod Lists
pub mod Bounded
pub mod Answers
pub mod Members
