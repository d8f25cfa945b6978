pub mod State
pub mod Rules
pub mod Ready
pub mod Root
pub mod Lent
