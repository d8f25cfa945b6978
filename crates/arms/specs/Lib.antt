pub mod Match
pub mod Free
