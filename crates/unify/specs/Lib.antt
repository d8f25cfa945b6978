pub mod Classes
pub mod Unify
